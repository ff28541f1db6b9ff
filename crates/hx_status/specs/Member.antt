-- The member of Cache-Status that the proxy adds (RFC 9211, section 2). Its parameters come in this order.
--
-- member_text: the member
-- hit_or_forward_text, fwd_status_text, ttl_text, text_if_flag, detail_parameter_text: its parameters
use Rattle.std.specs.Prelude.{◌≡◌, ℕ, ℤ, List, [], ◌++◌, codes, Bool, true, false, Option, Some, None, option_map}
use Rattle.std.specs.Fmt.{decimal, signed_decimal}
use Rattle.hx_reuse.specs.RuleNames.{reuse_rule_reason, reuse_rule_detail}
use Rattle.hx_storable.specs.StoringRuleNames.{storing_rule_word}
use Rattle.hx_storable.specs.declared.rule.StoreRule.{StoreRule}
use Rattle.hx_storable.specs.declared.rule.StoreRule.TheVariants as storing
use Rattle.hx_status.specs.declared.status.How.{How}
use Rattle.hx_status.specs.declared.status.How.TheVariants.{Hit, Fwd}
use Rattle.hx_status.specs.declared.status.Detail.{Detail}
use Rattle.hx_status.specs.declared.status.Detail.TheVariants.{StaleIfError, ReuseAfterError, ReuseAfter304}
use Rattle.hx_status.specs.declared.status.Detail.TheVariants.{SessionCookie, StaleWhileRevalidate}
use Rattle.hx_status.specs.declared.status.Status.{Status}

-- a stored response that no rule forbade, or the reason for going forward (RFC 9211, sections 2.1 and 2.2)
abbrev pub hit_or_forward_text : How → List ℕ
hit_or_forward_text Hit = codes ";hit"
hit_or_forward_text (Fwd rule) = codes ";fwd=" ++ reuse_rule_reason rule

-- the status of the origin's answer (RFC 9211, section 2.3)
abbrev pub fwd_status_text : Option ℕ → List ℕ
fwd_status_text None = []
fwd_status_text (Some status) = codes ";fwd-status=" ++ decimal status

-- the seconds of freshness left (RFC 9211, section 2.4)
abbrev pub ttl_text : Option ℤ → List ℕ
ttl_text None = []
ttl_text (Some seconds) = codes ";ttl=" ++ signed_decimal seconds

-- stored and collapsed (RFC 9211, sections 2.5 and 2.6)
abbrev pub text_if_flag : Bool → List ℕ → List ℕ
text_if_flag true text = text
text_if_flag false text = []

-- the words of steps that sent a stored response after all, or while it is validated, and of a request that its cookie
-- kept from the store
abbrev pub detail_word : Detail → List ℕ
detail_word StaleIfError = codes "stale-if-error"
detail_word ReuseAfterError = codes "reuse-after-error"
detail_word ReuseAfter304 = codes "reuse-after-304"
detail_word StaleWhileRevalidate = codes "stale-while-revalidate"
detail_word SessionCookie = codes "cookie"

abbrev pub detail_of_rule : How → Option (List ℕ)
detail_of_rule Hit = None
detail_of_rule (Fwd rule) = reuse_rule_detail rule

-- why an answer isn't stored, where nothing else is told: `not-stored-` and the word of the rule (law
-- `not_stored_names_the_rule`)
abbrev pub not_stored_word : StoreRule → List ℕ
not_stored_word storing.Operator = codes "not-stored-operator"
not_stored_word storing.Method = codes "not-stored-method"
not_stored_word storing.Bypass = codes "not-stored-bypass"
not_stored_word storing.Status = codes "not-stored-status"
not_stored_word storing.MustUnderstand = codes "not-stored-must-understand"
not_stored_word storing.ResponseNoStore = codes "not-stored-no-store"
not_stored_word storing.RequestNoStore = codes "not-stored-request-no-store"
not_stored_word storing.Private = codes "not-stored-private"
not_stored_word storing.Authorization = codes "not-stored-authorization"
not_stored_word storing.NothingAllows = codes "not-stored-nothing-allows"
not_stored_word storing.VaryStar = codes "not-stored-vary-star"
not_stored_word storing.ConnectionField = codes "not-stored-connection-field"
not_stored_word storing.NothingToReuse = codes "not-stored-no-lifetime"
not_stored_word storing.TooLarge = codes "not-stored-too-large"
not_stored_word storing.Overtaken = codes "not-stored-overtaken"
not_stored_word storing.Serials = codes "not-stored-no-serial"
not_stored_word storing.SetCookie = codes "not-stored-set-cookie"
not_stored_word storing.ErrorStatus = codes "not-stored-error-status"
not_stored_word storing.RequestCookie = codes "not-stored-request-cookie"

abbrev pub detail_word_or_not_stored : Option (List ℕ) → Option StoreRule → Option (List ℕ)
detail_word_or_not_stored (Some word) rule = Some word
detail_word_or_not_stored None rule = option_map not_stored_word rule

-- the word of such a step stands in place of the rule's, and either in place of the storing rule's
abbrev pub detail_of_step_or_rule : Option Detail → How → Option (List ℕ)
detail_of_step_or_rule (Some detail) how = Some (detail_word detail)
detail_of_step_or_rule None how = detail_of_rule how

abbrev pub detail_of_status : Status → Option (List ℕ)
detail_of_status status = detail_word_or_not_stored (detail_of_step_or_rule status.detail status.how) status.not_stored

abbrev pub parameter_of_detail_word : Option (List ℕ) → List ℕ
parameter_of_detail_word None = []
parameter_of_detail_word (Some word) = codes ";detail=" ++ word

-- what tells the rule from others of its reason (RFC 9211, section 2.8)
abbrev pub detail_parameter_text : Status → List ℕ
detail_parameter_text status = parameter_of_detail_word (detail_of_status status)

abbrev pub member_text : List ℕ → Status → List ℕ
member_text name status =
    name ++ hit_or_forward_text status.how ++ fwd_status_text status.fwd_status ++ ttl_text status.ttl
    ++ text_if_flag status.stored (codes ";stored") ++ text_if_flag status.collapsed (codes ";collapsed") ++ detail_parameter_text status

-- ---- the statement

abbrev pub NotStoredNamesTheRule : Type 0
NotStoredNamesTheRule = (rule : StoreRule) → not_stored_word rule ≡ codes "not-stored-" ++ storing_rule_word rule
