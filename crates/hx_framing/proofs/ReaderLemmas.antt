-- How a reader goes on, by the laws of its kind, as its functions have it: v is what its fields are seen as, and s
-- the reader.
use Rattle.std.proofs.Common.{◌≡◌, ℕ, ◌+◌, ◌*◌, ◌≤◌, Bool, false, List, ◌++◌, length, drop, Result, Ok, Err, IfOk, OnOk, OnErr, refl, sym, ap, subst, ◌∙◌, arith}
use Rattle.hx_framing.specs.declared.contents.content.Content.{Content}
use Rattle.hx_framing.specs.declared.contents.content.ContentProgress.{ContentProgress}
use Rattle.hx_framing.specs.declared.contents.content.ContentProgress.TheVariants as content_progress
use Rattle.hx_framing.specs.declared.messages.Next.{Next}
use Rattle.hx_framing.specs.declared.messages.Next.TheVariants as next
use Rattle.hx_framing.specs.declared.readers.progress.MessageProgress.{MessageProgress}
use Rattle.hx_framing.specs.declared.readers.progress.ReaderPhase.{ReaderPhase}
use Rattle.hx_framing.specs.declared.readers.progress.ReaderPhase.TheVariants as phase
use Rattle.hx_framing.specs.ContentReading.{ContentIsReadFurther}
use Rattle.hx_framing.specs.Progress.{Progress, progress_after_piece}
use Rattle.hx_framing.specs.Queue.{ByteQueue}
use Rattle.hx_framing.specs.ReaderKind.{ReaderKind}
use Rattle.hx_framing.specs.ReaderSteps.{ReaderLaws, StepsTo, HeadProgressLeadsReaderOn, answer_of_progress, number_of_bytes_taken, phase_after_progress, state_after_progress, message_progress_in_content, reader_state_with_piece}
use Rattle.hx_framing.specs.ReaderState.{ReaderState, KeepsOnlyUnfinished}

-- the reader whose phase was taken out, with that phase
pub put_back : {H : Type 0} {v s : ReaderState H} (f : ReaderPhase H) → v ≡ s → f ≡ v.phase → record v { phase = f } ≡ s
put_back {H} {v} f view is = ap (λ (g : ReaderPhase H). record v { phase = g }) is ∙ view

-- the bytes behind what was found in a content
left_is : {H M : Type 0} (make : _) (head : H) (ended closed : Bool) (bytes left : List ℕ) (old new : Content) (found : ContentProgress) → ContentIsReadFurther ended closed bytes old found new left
    → left ≡ drop (number_of_bytes_taken (message_progress_in_content {M = M} make head new found)) bytes
left_is make head ended closed bytes left old new (content_progress.Incomplete n) k = k.2
left_is make head ended closed bytes left old new (content_progress.Faulty f) k = k.1
left_is make head ended closed bytes left old new (content_progress.Whole c n) k = k.1

module _ {H M : Type 0} (kind : ReaderKind H M) (laws : ReaderLaws kind) where
  -- ---- a piece has come

  -- it doesn't count
  pub still_fed : {v s : ReaderState H} (p : Progress M) (piece : List ℕ) (f : ReaderPhase H) → v ≡ s → v.phase ≡ f → reader_state_with_piece s f piece s.spare ≡ s
      → kind.ReaderRepresentsStream s p → p.ended ≡ false → kind.ReaderRepresentsStream s (progress_after_piece p piece)
  still_fed {v} {s} p piece f view is still represents open_still =
      subst (λ (t : ReaderState H). kind.ReaderRepresentsStream t (progress_after_piece p piece))
      (ap (λ (f : ReaderPhase H). reader_state_with_piece s f piece s.spare) (ap (λ (s : ReaderState H). s.phase) (sym view) ∙ is) ∙ still) (laws.fed s p piece s.spare represents open_still)

  module _ {v s : ReaderState H} (piece : List ℕ) (f : ReaderPhase H) (q : ByteQueue) (view : v ≡ s) (is : v.phase ≡ f)
      (takes : reader_state_with_piece v f piece q.spare ≡ record v { unread = v.unread ++ piece; spare = q.spare }) where
    fed_is : q.items ≡ v.unread ++ piece → reader_state_with_piece v v.phase piece q.spare ≡ record v { unread = q.items; spare = q.spare }
    fed_is longer = ap (λ (f : ReaderPhase H). reader_state_with_piece v f piece q.spare) is ∙ takes ∙ ap (λ (u : List ℕ). record v { unread = u; spare = q.spare }) (sym longer)

    -- it found room
    pub fed_on : {A E : Type 0} (r : Result A E) → OnOk r (q.items ≡ v.unread ++ piece)
        → OnOk r ((p : Progress M) → kind.ReaderRepresentsStream s p → p.ended ≡ false → kind.ReaderRepresentsStream (record v { unread = q.items; spare = q.spare }) (progress_after_piece p piece))
    fed_on (Ok x) longer = λ p represents open_still.
        subst (λ (t : ReaderState H). kind.ReaderRepresentsStream t (progress_after_piece p piece)) (fed_is longer)
        (laws.fed v p piece q.spare (subst (λ (s : ReaderState H). kind.ReaderRepresentsStream s p) (sym view) represents) open_still)
    fed_on (Err x) longer = tt

    pub fed_weighs : {A E : Type 0} (old : ByteQueue) (r : Result A E) → record v { unread = old.items; spare = old.spare } ≡ v → OnOk r (q.items ≡ v.unread ++ piece) → OnErr r (q ≡ old)
        → kind.weight (record v { unread = q.items; spare = q.spare }) ≤ kind.weight s + 2 * length piece
    fed_weighs old (Ok x) here longer same = omega (arith, ap kind.weight (fed_is longer), ap kind.weight view, laws.weight_after_feeding v piece q.spare)
    fed_weighs old (Err x) here longer same = omega (arith, ap kind.weight (ap (λ (q : ByteQueue). record v { unread = q.items; spare = q.spare }) same ∙ here ∙ view))

  -- ---- before a head

  pub looked : {E : Type 0} {v s : ReaderState H} (bytes : List ℕ) (r : Result (MessageProgress H M) E) → v ≡ s → bytes ≡ v.unread → s.phase ≡ phase.BeforeHead
      → IfOk r (kind.FrontIsFound v.max_body v.to_head v.ended bytes) → IfOk r (HeadProgressLeadsReaderOn kind s)
  looked {v = v} {s = s} bytes (Ok found) view front waiting k =
      laws.front s found waiting
      (subst (λ (s : ReaderState H). kind.FrontIsFound s.max_body s.to_head s.ended s.unread found) view
      (subst (λ (u : List ℕ). kind.FrontIsFound v.max_body v.to_head v.ended u found) front k))
  looked bytes (Err x) view front waiting k = tt

  pub looked_in_vain : {A E : Type 0} {v s : ReaderState H} (bytes : List ℕ) (r : Result A E) → v ≡ s → bytes ≡ v.unread → s.phase ≡ phase.BeforeHead
      → OnErr r (kind.WholeHeadIsThere bytes) → OnErr r ((p : Progress M) → kind.ReaderRepresentsStream s p → kind.OutOfMemoryIsAllowed p)
  looked_in_vain bytes (Ok x) view front waiting k = tt
  looked_in_vain {s = s} bytes (Err x) view front waiting k = λ p represents.
      laws.front_may_run_out_of_memory s p waiting (subst (λ (u : List ℕ). kind.WholeHeadIsThere u) (front ∙ ap (λ (s : ReaderState H). s.unread) view) k) represents

  -- ---- in a content

  pub content_on : {v s : ReaderState H} (head : H) (old new : Content) (left : List ℕ) (spare : ℕ) {closed : Bool} {f : ContentProgress} (found : ContentProgress)
      (answer : Next M) (behind : ReaderPhase H) → v ≡ s → closed ≡ kind.is_closed_by v.ended → f ≡ found → ContentIsReadFurther v.ended closed v.unread old f new left
      → answer ≡ answer_of_progress (message_progress_in_content (kind.message_of v.to_head head) head new found)
      → behind ≡ phase_after_progress kind.behind_message (message_progress_in_content (kind.message_of v.to_head head) head new found)
      → StepsTo kind (record s { phase = phase.InContent head old }) answer (record v { unread = left; spare = spare; phase = behind })
  content_on {v} {s} head old new left spare {closed} found answer behind view closes is k answer_is behind_is =
      let here : ContentIsReadFurther v.ended (kind.is_closed_by v.ended) v.unread old found new left
      = subst (λ (b : Bool). ContentIsReadFurther v.ended b v.unread old found new left) closes (subst (λ (f : ContentProgress). ContentIsReadFurther v.ended closed v.unread old f new left) is k) in
      subst (λ (s : ReaderState H). StepsTo kind (record s { phase = phase.InContent head old }) answer (record v { unread = left; spare = spare; phase = behind })) view
      (subst (λ (a : Next M). StepsTo kind (record v { phase = phase.InContent head old }) a (record v { unread = left; spare = spare; phase = behind })) (sym answer_is)
      (subst (λ (f : ReaderPhase H). StepsTo kind (record v { phase = phase.InContent head old }) (answer_of_progress (message_progress_in_content (kind.message_of v.to_head head) head new found)) (record v { unread = left; spare = spare; phase = f })) (sym behind_is)
      (subst (λ (u : List ℕ). StepsTo kind (record v { phase = phase.InContent head old }) (answer_of_progress (message_progress_in_content (kind.message_of v.to_head head) head new found))
      (record v { unread = u; spare = spare; phase = phase_after_progress kind.behind_message (message_progress_in_content (kind.message_of v.to_head head) head new found) }))
      (sym (left_is (kind.message_of v.to_head head) head v.ended (kind.is_closed_by v.ended) v.unread left old new found here))
      (laws.content (record v { phase = phase.InContent head old }) head old new found left spare refl here))))

-- what was found before a head was passed
pub passed : {H M : Type 0} (kind : ReaderKind H M) {v s t : ReaderState H} (found : MessageProgress H M) (answer : Next M) → v ≡ s → HeadProgressLeadsReaderOn kind s found → answer ≡ answer_of_progress found
    → t ≡ state_after_progress kind v t.spare found → StepsTo kind s answer t
passed {H} {M} kind {v} {s} {t} found answer same leads answer_is state_is =
    subst (λ (a : Next M). StepsTo kind s a t) (sym answer_is)
    (subst (λ (t : ReaderState H). StepsTo kind s (answer_of_progress found) t) (sym (state_is ∙ ap (λ (v : ReaderState H). state_after_progress kind v t.spare found) same)) (leads.steps t.spare))

-- and where nothing is due yet, what is begun stays
pub waits : {H M : Type 0} (kind : ReaderKind H M) {v s : ReaderState H} (found : MessageProgress H M) → v ≡ s → HeadProgressLeadsReaderOn kind s found → answer_of_progress found ≡ next.More
    → KeepsOnlyUnfinished (state_after_progress kind v v.spare found)
waits {H} kind {s = s} found same leads more = subst (λ (v : ReaderState H). KeepsOnlyUnfinished (state_after_progress kind v v.spare found)) (sym same) ((leads.steps s.spare).unfinished more)
