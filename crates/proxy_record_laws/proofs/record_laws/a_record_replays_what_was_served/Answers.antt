use Rattle.proxy_record_laws.proofs.Replaying.{record_replays, ended_record_replays}
use Rattle.proxy_record_laws.proofs.record_laws.a_record_replays_what_was_served.Goals as goal

pub returns : goal.returns
returns c =
    let recorded = c.what_a_turn_takes_is_recorded.ensures in
    let due = c.one_act_is_due_first.ensures in
    let emit = c.turns_execute_their_steps.ensures.over_reports in
    let goes_on = c.a_whole_play_extends_the_play_so_far.ensures in
    let one_table = c.reading_of_a_table_is_unique.ensures in
    let again = c.items_are_found_as_they_are_spelled.ensures.again in
    let scripts = c.a_record_is_a_script.ensures.records in
    let spelled = c.a_record_is_a_script.ensures.spelled in
    record {
      whole = record_replays recorded due c.a_turn_without_failure_does_acts_in_order.ensures.rounds emit goes_on one_table again scripts spelled;
      ended = ended_record_replays recorded due c.a_turn_without_failure_does_acts_in_order.ensures.rounds emit goes_on one_table again scripts spelled;
    }
