use Rattle.std.proofs.Common.{◌++◌, ◌∷◌, [], List, ap, refl}
use Rattle.std.specs.Prelude.{codes, decimal}
use Rattle.hx_fields.specs.Line.{Field}
use Rattle.hx_age.specs.Age.{age_of}
use Rattle.hx_status.specs.Member.{member_text}
use Rattle.proxy_core.specs.Replies.{cache_status_in_place_of_answer, cache_status_of_passed_answer, cache_status_of_sent, fields_with_age_and_status, line, fields_without_hidden_tags}
use Rattle.proxy_core.proofs.HiddenTags.{all_shown, none_behind, none_shown}
use Rattle.proxy_core.proofs.laws.tag_cases.hidden_tags_are_never_sent.Goals as goal

pub returns-clause-stored : goal.returns-clause-stored
returns-clause-stored c = λ name status fields e now info hides.
    none_behind (fields_without_hidden_tags info.policy.hides_tags fields ++ line (codes "Age") (decimal (age_of e.times now)) ∷ []) (line (codes "Cache-Status") (member_text name (cache_status_of_sent status e now info)))
    (none_behind (fields_without_hidden_tags info.policy.hides_tags fields) (line (codes "Age") (decimal (age_of e.times now))) (none_shown info.policy.hides_tags fields hides) refl) refl

pub returns-clause-passed : goal.returns-clause-passed
returns-clause-passed c = λ policy name x status fields now stored rule hides.
    none_behind (fields_without_hidden_tags policy.hides_tags fields) (line (codes "Cache-Status") (member_text name (cache_status_of_passed_answer policy x status fields now stored rule)))
    (none_shown policy.hides_tags fields hides) refl

pub returns-clause-in_its_place : goal.returns-clause-in_its_place
returns-clause-in_its_place c = λ policy name x status fields now stored rule own hides.
    none_behind (fields_without_hidden_tags policy.hides_tags own) (line (codes "Cache-Status") (member_text name (cache_status_in_place_of_answer policy x status fields now stored rule)))
    (none_shown policy.hides_tags own hides) refl

pub returns-clause-stored_elsewhere : goal.returns-clause-stored_elsewhere
returns-clause-stored_elsewhere c = λ name status fields e now info shown.
    ap (λ (fs : List Field). fields_with_age_and_status name status fs e now info) (all_shown info.policy.hides_tags fields shown)

pub returns-clause-passed_elsewhere : goal.returns-clause-passed_elsewhere
returns-clause-passed_elsewhere c = λ policy name x status fields now stored rule shown.
    ap (λ (fs : List Field). fs ++ line (codes "Cache-Status") (member_text name (cache_status_of_passed_answer policy x status fields now stored rule)) ∷ []) (all_shown policy.hides_tags fields shown)

pub returns-clause-in_its_place_elsewhere : goal.returns-clause-in_its_place_elsewhere
returns-clause-in_its_place_elsewhere c = λ policy name x status fields now stored rule own shown.
    ap (λ (fs : List Field). fs ++ line (codes "Cache-Status") (member_text name (cache_status_in_place_of_answer policy x status fields now stored rule)) ∷ []) (all_shown policy.hides_tags own shown)
