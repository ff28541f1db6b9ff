-- The text of a rule is read back: no two rules have the same.
use Rattle.std.proofs.Common.{◌≡◌, inl, inr, arith, List, [], ◌∷◌, ℕ, refl, sym, ◌∙◌, ap}
use Rattle.std.specs.Prelude.{◌==◌, bytes_eq, false, find, Option, Some}
use Rattle.std.proofs.lemmas.Bool.Decides.{nat_tests}
use Rattle.hx_reuse.specs.declared.rule.ReuseRule.{ReuseRule}
use Rattle.hx_reuse.specs.declared.rule.ReuseRule.TheVariants.{Operator, Method, Content, Range, Precondition, UriMiss, VaryMiss, ResponseNoCache, RequestNoCache, AboveMaxAge, BelowMinFresh, MustRevalidate, NoLifetime, StaleNoCache, NoMaxStale, PastMaxStale, StaleMaxAge, StaleMinFresh}
use Rattle.hx_reuse.specs.Rules.{reuse_rules}
use Rattle.hx_framing.specs.declared.frame_fault.FrameFault.{FrameFault}
use Rattle.hx_framing.specs.declared.frame_fault.FrameFault.TheVariants as frame
use Rattle.hx_target.specs.declared.target_fault.TargetFault.{TargetFault}
use Rattle.hx_target.specs.declared.target_fault.TargetFault.TheVariants as target
use Rattle.hx_status.specs.declared.cause.FailKind.{FailKind}
use Rattle.hx_status.specs.declared.cause.FailKind.TheVariants as kind
use Rattle.hx_status.specs.Refusals.{CauseIsDenialByTheTable, frame_fault_word, fail_kind_word, fwd_parameters_of_rule, refusal_status, target_fault_word}
use Rattle.hx_status.specs.declared.cause.Cause.{Cause}
use Rattle.hx_status.specs.declared.cause.Cause.TheVariants.{Denied, NoLine, Looped, OnlyIfCached, Origin, Frame, Target}

-- the rule that has this text
named_by : List ℕ → Option ReuseRule
named_by text = find (λ r. bytes_eq (fwd_parameters_of_rule r) text) reuse_rules

named : (r : ReuseRule) → named_by (fwd_parameters_of_rule r) ≡ Some r
unfolding named_by
named Operator = refl
named Method = refl
named Content = refl
named Range = refl
named Precondition = refl
named UriMiss = refl
named VaryMiss = refl
named ResponseNoCache = refl
named RequestNoCache = refl
named AboveMaxAge = refl
named BelowMinFresh = refl
named MustRevalidate = refl
named NoLifetime = refl
named StaleNoCache = refl
named NoMaxStale = refl
named PastMaxStale = refl
named StaleMaxAge = refl
named StaleMinFresh = refl

same_rule : (r q : ReuseRule) → ◌≡◌ {A = Option ReuseRule} (Some r) (Some q) → r ≡ q
same_rule r q h = cc

pub texts_differ : (r q : ReuseRule) → fwd_parameters_of_rule r ≡ fwd_parameters_of_rule q → r ≡ q
texts_differ r q h = same_rule r q (sym (named r) ∙ ap named_by h ∙ named q)

every_frame : List FrameFault
every_frame = frame.Head ∷ frame.Version ∷ frame.BothLengths ∷ frame.Length ∷ frame.Coding ∷ frame.Chunk ∷ frame.TooLarge ∷ frame.Expect ∷ frame.Truncated ∷ frame.Status ∷ []

-- the frame that has this word
frame_by : List ℕ → Option FrameFault
frame_by text = find (λ x. bytes_eq (frame_fault_word x) text) every_frame

frame_named : (x : FrameFault) → frame_by (frame_fault_word x) ≡ Some x
unfolding frame_by every_frame
frame_named frame.Head = refl
frame_named frame.Version = refl
frame_named frame.BothLengths = refl
frame_named frame.Length = refl
frame_named frame.Coding = refl
frame_named frame.Chunk = refl
frame_named frame.TooLarge = refl
frame_named frame.Expect = refl
frame_named frame.Truncated = refl
frame_named frame.Status = refl

same_frame : (x y : FrameFault) → ◌≡◌ {A = Option FrameFault} (Some x) (Some y) → x ≡ y
same_frame x y h = cc

pub frame_words_differ : (x y : FrameFault) → frame_fault_word x ≡ frame_fault_word y → x ≡ y
frame_words_differ x y h = same_frame x y (sym (frame_named x) ∙ ap frame_by h ∙ frame_named y)

every_target : List TargetFault
every_target = target.Form ∷ target.Scheme ∷ target.Host ∷ target.Port ∷ target.Userinfo ∷ target.Escape ∷ target.DotSegment ∷ target.TooLong ∷ target.OutOfMemory ∷ []

-- the target that has this word
target_by : List ℕ → Option TargetFault
target_by text = find (λ x. bytes_eq (target_fault_word x) text) every_target

target_named : (x : TargetFault) → target_by (target_fault_word x) ≡ Some x
unfolding target_by every_target
target_named target.Form = refl
target_named target.Scheme = refl
target_named target.Host = refl
target_named target.Port = refl
target_named target.Userinfo = refl
target_named target.Escape = refl
target_named target.DotSegment = refl
target_named target.TooLong = refl
target_named target.OutOfMemory = refl

same_target : (x y : TargetFault) → ◌≡◌ {A = Option TargetFault} (Some x) (Some y) → x ≡ y
same_target x y h = cc

pub target_words_differ : (x y : TargetFault) → target_fault_word x ≡ target_fault_word y → x ≡ y
target_words_differ x y h = same_target x y (sym (target_named x) ∙ ap target_by h ∙ target_named y)

every_kind : List FailKind
every_kind = kind.Refused ∷ kind.TimedOut ∷ kind.Closed ∷ kind.BadAnswer ∷ kind.TooLarge ∷ []

-- the kind that has this word
kind_by : List ℕ → Option FailKind
kind_by text = find (λ x. bytes_eq (fail_kind_word x) text) every_kind

kind_named : (x : FailKind) → kind_by (fail_kind_word x) ≡ Some x
unfolding kind_by every_kind
kind_named kind.Refused = refl
kind_named kind.TimedOut = refl
kind_named kind.Closed = refl
kind_named kind.BadAnswer = refl
kind_named kind.TooLarge = refl

same_kind : (x y : FailKind) → ◌≡◌ {A = Option FailKind} (Some x) (Some y) → x ≡ y
same_kind x y h = cc

pub kind_words_differ : (x y : FailKind) → fail_kind_word x ≡ fail_kind_word y → x ≡ y
kind_words_differ x y h = same_kind x y (sym (kind_named x) ∙ ap kind_by h ∙ kind_named y)

-- ---- the statuses

not_403 : (status : ℕ) → (status == 403) ≡ false → status ≡ 403 → ⊥
not_403 status other is = grind (arith, nat_tests)

pub only_denials_by_the_table_have_403 : (cause : Cause) → refusal_status cause ≡ 403 → CauseIsDenialByTheTable cause
only_denials_by_the_table_have_403 (Denied line) h = inl (line, refl)
only_denials_by_the_table_have_403 NoLine h = inr refl
only_denials_by_the_table_have_403 (Looped line) h = absurd (not_403 (refusal_status (Looped line)) refl h)
only_denials_by_the_table_have_403 (OnlyIfCached rule) h = absurd (not_403 (refusal_status (OnlyIfCached rule)) refl h)
only_denials_by_the_table_have_403 (Origin kind.Refused rule error) h = absurd (not_403 (refusal_status (Origin kind.Refused rule error)) refl h)
only_denials_by_the_table_have_403 (Origin kind.TimedOut rule error) h = absurd (not_403 (refusal_status (Origin kind.TimedOut rule error)) refl h)
only_denials_by_the_table_have_403 (Origin kind.Closed rule error) h = absurd (not_403 (refusal_status (Origin kind.Closed rule error)) refl h)
only_denials_by_the_table_have_403 (Origin kind.BadAnswer rule error) h = absurd (not_403 (refusal_status (Origin kind.BadAnswer rule error)) refl h)
only_denials_by_the_table_have_403 (Origin kind.TooLarge rule error) h = absurd (not_403 (refusal_status (Origin kind.TooLarge rule error)) refl h)
only_denials_by_the_table_have_403 (Frame frame.Head) h = absurd (not_403 (refusal_status (Frame frame.Head)) refl h)
only_denials_by_the_table_have_403 (Frame frame.Version) h = absurd (not_403 (refusal_status (Frame frame.Version)) refl h)
only_denials_by_the_table_have_403 (Frame frame.BothLengths) h = absurd (not_403 (refusal_status (Frame frame.BothLengths)) refl h)
only_denials_by_the_table_have_403 (Frame frame.Length) h = absurd (not_403 (refusal_status (Frame frame.Length)) refl h)
only_denials_by_the_table_have_403 (Frame frame.Coding) h = absurd (not_403 (refusal_status (Frame frame.Coding)) refl h)
only_denials_by_the_table_have_403 (Frame frame.Chunk) h = absurd (not_403 (refusal_status (Frame frame.Chunk)) refl h)
only_denials_by_the_table_have_403 (Frame frame.TooLarge) h = absurd (not_403 (refusal_status (Frame frame.TooLarge)) refl h)
only_denials_by_the_table_have_403 (Frame frame.Expect) h = absurd (not_403 (refusal_status (Frame frame.Expect)) refl h)
only_denials_by_the_table_have_403 (Frame frame.Truncated) h = absurd (not_403 (refusal_status (Frame frame.Truncated)) refl h)
only_denials_by_the_table_have_403 (Frame frame.Status) h = absurd (not_403 (refusal_status (Frame frame.Status)) refl h)
only_denials_by_the_table_have_403 (Target target.Form) h = absurd (not_403 (refusal_status (Target target.Form)) refl h)
only_denials_by_the_table_have_403 (Target target.Scheme) h = absurd (not_403 (refusal_status (Target target.Scheme)) refl h)
only_denials_by_the_table_have_403 (Target target.Host) h = absurd (not_403 (refusal_status (Target target.Host)) refl h)
only_denials_by_the_table_have_403 (Target target.Port) h = absurd (not_403 (refusal_status (Target target.Port)) refl h)
only_denials_by_the_table_have_403 (Target target.Userinfo) h = absurd (not_403 (refusal_status (Target target.Userinfo)) refl h)
only_denials_by_the_table_have_403 (Target target.Escape) h = absurd (not_403 (refusal_status (Target target.Escape)) refl h)
only_denials_by_the_table_have_403 (Target target.DotSegment) h = absurd (not_403 (refusal_status (Target target.DotSegment)) refl h)
only_denials_by_the_table_have_403 (Target target.TooLong) h = absurd (not_403 (refusal_status (Target target.TooLong)) refl h)
only_denials_by_the_table_have_403 (Target target.OutOfMemory) h = absurd (not_403 (refusal_status (Target target.OutOfMemory)) refl h)

pub the_table_forbids : (cause : Cause) → CauseIsDenialByTheTable cause → refusal_status cause ≡ 403
the_table_forbids cause (inl (line, is)) = rw is refl
the_table_forbids cause (inr is) = rw is refl

not_508 : (status : ℕ) → (status == 508) ≡ false → status ≡ 508 → ⊥
not_508 status other is = grind (arith, nat_tests)

pub only_a_loop : (cause : Cause) → refusal_status cause ≡ 508 → (line : ℕ) × (cause ≡ Looped line)
only_a_loop (Denied line) h = absurd (not_508 (refusal_status (Denied line)) refl h)
only_a_loop NoLine h = absurd (not_508 (refusal_status NoLine) refl h)
only_a_loop (Looped line) h = (line, refl)
only_a_loop (OnlyIfCached rule) h = absurd (not_508 (refusal_status (OnlyIfCached rule)) refl h)
only_a_loop (Origin kind.Refused rule error) h = absurd (not_508 (refusal_status (Origin kind.Refused rule error)) refl h)
only_a_loop (Origin kind.TimedOut rule error) h = absurd (not_508 (refusal_status (Origin kind.TimedOut rule error)) refl h)
only_a_loop (Origin kind.Closed rule error) h = absurd (not_508 (refusal_status (Origin kind.Closed rule error)) refl h)
only_a_loop (Origin kind.BadAnswer rule error) h = absurd (not_508 (refusal_status (Origin kind.BadAnswer rule error)) refl h)
only_a_loop (Origin kind.TooLarge rule error) h = absurd (not_508 (refusal_status (Origin kind.TooLarge rule error)) refl h)
only_a_loop (Frame frame.Head) h = absurd (not_508 (refusal_status (Frame frame.Head)) refl h)
only_a_loop (Frame frame.Version) h = absurd (not_508 (refusal_status (Frame frame.Version)) refl h)
only_a_loop (Frame frame.BothLengths) h = absurd (not_508 (refusal_status (Frame frame.BothLengths)) refl h)
only_a_loop (Frame frame.Length) h = absurd (not_508 (refusal_status (Frame frame.Length)) refl h)
only_a_loop (Frame frame.Coding) h = absurd (not_508 (refusal_status (Frame frame.Coding)) refl h)
only_a_loop (Frame frame.Chunk) h = absurd (not_508 (refusal_status (Frame frame.Chunk)) refl h)
only_a_loop (Frame frame.TooLarge) h = absurd (not_508 (refusal_status (Frame frame.TooLarge)) refl h)
only_a_loop (Frame frame.Expect) h = absurd (not_508 (refusal_status (Frame frame.Expect)) refl h)
only_a_loop (Frame frame.Truncated) h = absurd (not_508 (refusal_status (Frame frame.Truncated)) refl h)
only_a_loop (Frame frame.Status) h = absurd (not_508 (refusal_status (Frame frame.Status)) refl h)
only_a_loop (Target target.Form) h = absurd (not_508 (refusal_status (Target target.Form)) refl h)
only_a_loop (Target target.Scheme) h = absurd (not_508 (refusal_status (Target target.Scheme)) refl h)
only_a_loop (Target target.Host) h = absurd (not_508 (refusal_status (Target target.Host)) refl h)
only_a_loop (Target target.Port) h = absurd (not_508 (refusal_status (Target target.Port)) refl h)
only_a_loop (Target target.Userinfo) h = absurd (not_508 (refusal_status (Target target.Userinfo)) refl h)
only_a_loop (Target target.Escape) h = absurd (not_508 (refusal_status (Target target.Escape)) refl h)
only_a_loop (Target target.DotSegment) h = absurd (not_508 (refusal_status (Target target.DotSegment)) refl h)
only_a_loop (Target target.TooLong) h = absurd (not_508 (refusal_status (Target target.TooLong)) refl h)
only_a_loop (Target target.OutOfMemory) h = absurd (not_508 (refusal_status (Target target.OutOfMemory)) refl h)
