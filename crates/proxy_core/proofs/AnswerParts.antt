-- What of an answer of the origin is sent to a request whose range stayed with the proxy, by the lines that were made.
use Rattle.std.proofs.Common.{◌≡◌, ℕ, ◌+◌, Bool, true, cond, List, [], length, sym, ◌∙◌, ap}
use Rattle.std.specs.Prelude.{slice_range, Option, Some}
use Rattle.hx_fields.specs.Line.{Field}
use Rattle.hx_framing.specs.Text.{response_text}
use Rattle.hx_framing.specs.declared.messages.Response.{Response}
use Rattle.hx_hop.specs.Answering.{answered_of}
use Rattle.hx_hop.specs.declared.response_view.Answered.{Answered}
use Rattle.hx_policy.specs.declared.words.Policy.{Policy}
use Rattle.hx_storable.specs.declared.rule.StoreRule.{StoreRule}
use Rattle.hx_validate.specs.Ranges.{fields_of_416_to_answer, fields_of_206}
use Rattle.hx_validate.specs.Room.{head_leaves_room}
use Rattle.hx_validate.specs.declared.ranges.RangeAnswer.TheVariants.{Part, Unsatisfiable}
use Rattle.proxy_core.specs.Abouts.{report_of_answer_cut_to_range, report_in_place_of_answer, report_of_answer_passed_whole}
use Rattle.proxy_core.specs.Replies.{text_of_answer_or_its_range, content_unless_head, fields_in_place_of_answer, fields_of_answer_416, fields_of_partial_answer, is_head, text_in_place_of_answer, whole_answer_text}
use Rattle.proxy_core.specs.declared.open.exchange.Exchange.{Exchange}

module _ (policy : Policy) (name : List ℕ) (x : Exchange) (r : Response) (h : Answered) (now : ℕ) (stored : Bool) (rule : Option StoreRule) (same : h ≡ answered_of r now) (lines own : List Field) (laid : lines ≡ fields_in_place_of_answer policy name x h.status h.fields now stored rule own) (room : head_leaves_room own ≡ true) where
  -- with these lines of its own in place of those that were made
  abbrev pub text : ℕ → List ℕ → Answered → List Field → List ℕ
  text status content g f =
      response_text status (fields_in_place_of_answer policy name x g.status g.fields now stored rule f) (Some (length content)) x.asked.close (content_unless_head (is_head x.asked) content)

  abbrev pub sent : ℕ → List ℕ → List ℕ
  sent status content =
      response_text status lines (Some (length content)) x.asked.close (content_unless_head (is_head x.asked) content)

  in_place : (status : ℕ) (content : List ℕ) (made : Answered → List Field) → own ≡ made h → sent status content ≡ text status content (answered_of r now) (made (answered_of r now))
  in_place status content made is =
      ap (λ (f : List Field). response_text status f (Some (length content)) x.asked.close (content_unless_head (is_head x.asked) content)) laid
      ∙ (ap (text status content h) is ∙ ap (λ (g : Answered). text status content g (made g)) same)

  has_room : (made : Answered → List Field) → own ≡ made h → head_leaves_room (made (answered_of r now)) ≡ true
  has_room made is = sym (ap head_leaves_room (is ∙ ap made same)) ∙ room

  pub part_in_place : (first last : ℕ) (content : List ℕ) → content ≡ r.content → own ≡ fields_of_206 h.fields first last (length content)
      → sent 206 (slice_range content first (last + 1)) ≡ text_of_answer_or_its_range policy name x r now stored rule (Part first last)
  part_in_place first last content whole is =
      let made : (Answered → List Field) = λ g. fields_of_206 g.fields first last (length r.content) in
      let made_is : own ≡ made h = is ∙ ap (λ (c : List ℕ). fields_of_206 h.fields first last (length c)) whole in
      ap (λ (c : List ℕ). sent 206 (slice_range c first (last + 1))) whole
      ∙ (in_place 206 (slice_range r.content first (last + 1)) made made_is
      ∙ sym (ap (λ b. cond b (text_in_place_of_answer policy name x r now stored rule 206 (fields_of_partial_answer r now first last) (slice_range r.content first (last + 1))) (whole_answer_text policy name x r now stored rule)) (has_room made made_is)))

  pub unsatisfied_in_place : (total : ℕ) → total ≡ length r.content → own ≡ fields_of_416_to_answer h.fields total
      → sent 416 [] ≡ text_of_answer_or_its_range policy name x r now stored rule Unsatisfiable
  unsatisfied_in_place total whole is =
      let made : (Answered → List Field) = λ g. fields_of_416_to_answer g.fields (length r.content) in
      let made_is : own ≡ made h = is ∙ ap (fields_of_416_to_answer h.fields) whole in
      in_place 416 [] made made_is
      ∙ sym (ap (λ b. cond b (text_in_place_of_answer policy name x r now stored rule 416 (fields_of_answer_416 r now) []) (whole_answer_text policy name x r now stored rule)) (has_room made made_is))

  pub report_of_part_in_place : (first last : ℕ) (content : List ℕ) → content ≡ r.content → own ≡ fields_of_206 h.fields first last (length content)
      → report_in_place_of_answer policy x r now stored rule 206 (content_unless_head (is_head x.asked) (slice_range content first (last + 1))) ≡ report_of_answer_cut_to_range policy x r now stored rule (Part first last)
  report_of_part_in_place first last content whole is =
      let made : (Answered → List Field) = λ g. fields_of_206 g.fields first last (length r.content) in
      let made_is : own ≡ made h = is ∙ ap (λ (c : List ℕ). fields_of_206 h.fields first last (length c)) whole in
      ap (λ (c : List ℕ). report_in_place_of_answer policy x r now stored rule 206 (content_unless_head (is_head x.asked) (slice_range c first (last + 1)))) whole
      ∙ sym (ap (λ b. cond b (report_in_place_of_answer policy x r now stored rule 206 (content_unless_head (is_head x.asked) (slice_range r.content first (last + 1)))) (report_of_answer_passed_whole policy x r now stored rule)) (has_room made made_is))

  pub report_of_unsatisfied_in_place : (total : ℕ) → total ≡ length r.content → own ≡ fields_of_416_to_answer h.fields total
      → report_in_place_of_answer policy x r now stored rule 416 (content_unless_head (is_head x.asked) []) ≡ report_of_answer_cut_to_range policy x r now stored rule Unsatisfiable
  report_of_unsatisfied_in_place total whole is =
      let made : (Answered → List Field) = λ g. fields_of_416_to_answer g.fields (length r.content) in
      let made_is : own ≡ made h = is ∙ ap (fields_of_416_to_answer h.fields) whole in
      sym (ap (λ b. cond b (report_in_place_of_answer policy x r now stored rule 416 (content_unless_head (is_head x.asked) [])) (report_of_answer_passed_whole policy x r now stored rule)) (has_room made made_is))
