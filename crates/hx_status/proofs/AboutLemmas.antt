-- What is told as data stands in the reply's own line.
use Rattle.std.proofs.Common.{◌≡◌, ◌++◌, ℕ, List, ap, refl, ◌∙◌}
use Rattle.std.proofs.lemmas.List.{append_assoc}
use Rattle.std.specs.Prelude.{codes}
use Rattle.hx_reuse.specs.RuleNames.{reuse_rule_reason}
use Rattle.hx_status.specs.declared.status.How.{How}
use Rattle.hx_status.specs.declared.status.How.TheVariants.{Hit, Fwd}
use Rattle.hx_status.specs.Member.{detail_parameter_text, text_if_flag, fwd_status_text, hit_or_forward_text, ttl_text}
use Rattle.hx_status.specs.Abouts.{handling_text, CacheStatusMemberHasTheReason, RefusalTextIsTheReason}

-- the first parameter, whatever stands behind it
parameter_is_told : (how : How) → hit_or_forward_text how ≡ codes ";" ++ handling_text how
parameter_is_told Hit = refl
parameter_is_told (Fwd rule) = ap (λ (w : List ℕ). w ++ reuse_rule_reason rule) word ∙ append_assoc (codes ";") (codes "fwd=") (reuse_rule_reason rule)
  where
    word : codes ";fwd=" ≡ codes ";" ++ codes "fwd="
    word = refl

-- one parameter more
one_more : (name told more : List ℕ) (text : List ℕ) → text ≡ name ++ (codes ";" ++ told) → text ++ more ≡ name ++ (codes ";" ++ (told ++ more))
one_more name told more text is =
    ap (λ (w : List ℕ). w ++ more) is ∙ (append_assoc name (codes ";" ++ told) more ∙ ap (λ (w : List ℕ). name ++ w) (append_assoc (codes ";") told more))

pub member_is_told : CacheStatusMemberHasTheReason
member_is_told name status =
    one_more name _ (detail_parameter_text status) _
    (one_more name _ (text_if_flag status.collapsed (codes ";collapsed")) _
    (one_more name _ (text_if_flag status.stored (codes ";stored")) _
    (one_more name _ (ttl_text status.ttl) _
    (one_more name (handling_text status.how) (fwd_status_text status.fwd_status) (name ++ hit_or_forward_text status.how) (ap (λ (w : List ℕ). name ++ w) (parameter_is_told status.how))))))

pub refusal_is_told : RefusalTextIsTheReason
refusal_is_told cause n = refl
