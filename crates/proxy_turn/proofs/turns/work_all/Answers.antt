use Rattle.std.proofs.Common.{◌≡◌, ◌≤◌, ◌+◌, List, length, map, vec_len, vec_capacity, refl, sym, ap, subst, arith, rules}
use Rattle.proxy_script.specs.declared.effect_list.Effect.{Effect}
use Rattle.proxy_turn.specs.Turn.{end_of_effect}
use Rattle.proxy_turn.specs.Parts.{EndNumbersWereGiven}
use Rattle.proxy_turn.proofs.Working.{same_gone, same_emitted, same_fault, worked_none, stopped_by, idle_by, failed_by, acted, emitted_there, emitted_short, worked_more}
use Rattle.proxy_turn.proofs.turns.work_all.Goals as goal

pub loop-works-init : goal.loop-works-init
loop-works-init g c = λ s represents h. worked_none c.args.now s c.args.engine.now c.in-Ok.failed.items _ _ (c.in-Ok.ensures s represents) represents (g.met.K.Sockets.none _)

pub returns-in_default : goal.returns-in_default
returns-in_default g c = λ s represents h. stopped_by _ _ _ _ _ _ _ _ _ (worked_none c.args.now s c.args.engine.now _ _ _ refl represents (g.met.K.Sockets.none _)) (omega arith)

pub returns-in-Ok-Idle : goal.returns-in-Ok-Idle
returns-in-Ok-Idle g c = λ s represents h.
    let done = c.loop-works.invariant s represents h in
    let within = c.loop-works-test.true in
    idle_by c.args.now s c.loop-works.engine _ _ _ _ c.loop-works.works c.loop-works.faults done c.in-Ok-Idle.field-0 c.work.new.self _ c.in-Ok-Idle.field-0-is (c.in-Ok-Idle.ensures.ok done.some.last done.some.represents) refl refl (omega (arith, within))

pub returns-in-Err : goal.returns-in-Err
returns-in-Err g c = λ s represents h.
    let done = c.loop-works.invariant s represents h in
    let within = c.loop-works-test.true in
    same_fault c.args.now s c.work.new.self _ _ _ _ c.from.result c.from.ensures
    (failed_by c.args.now s c.loop-works.engine _ _ _ _ c.loop-works.works c.loop-works.faults done c.in-Err.fault c.work.new.self (c.in-Err.ensures.fault done.some.last done.some.represents) (c.in-Err.ensures.unchanged done.some.last done.some.represents) (omega (arith, within)))

pub returns-in-Err-carry_out : goal.returns-in-Err-carry_out
returns-in-Err-carry_out g c = λ s represents h.
    let first = c.loop-works.invariant s represents h in
    let done = same_gone c.args.now s c.loop-works.engine c.loop-works.failed.items c.reserve.new.self.items _ _ _ c.loop-works.works c.loop-works.faults c.reserve.ensures.items first in
    let one = acted done.some.last c.args.now c.in-Ok-Did.field-0 c.in-Ok-Did.effects c.work.new.self c.in-Ok-Did.field-0-is (c.in-Ok-Did.ensures.ok done.some.last done.some.represents) in
    let there = emitted_there c.args.now s c.loop-works.engine c.reserve.new.self.items _ _ _ c.loop-works.works c.loop-works.faults done c.in-Ok-Did.effects.items c.work.new.self one c.effects_name_open_ends.ensures.takes c.effects_name_open_ends.ensures.acts c.ended_connections_and_links_stay_ended.ensures.acts h in
    let short = emitted_short c.args.now s c.loop-works.engine c.reserve.new.self.items _ _ _ c.loop-works.works c.loop-works.faults done c.in-Ok-Did.effects.items c.work.new.self one c.an_act_has_three_effects_at_most.ensures in
    let room : vec_len c.reserve.new.self + 3 ≤ vec_capacity c.reserve.new.self = search rules in
    let long = ap (λ (es : List Effect). length es) c.deref.ensures.value in
    absurd (c.in-Err-carry_out.ensures.never (omega (arith, room, short, long)) one.after one.represents (subst (λ (es : List Effect). EndNumbersWereGiven one.after (map end_of_effect es)) (sym c.deref.ensures.value) there))

pub loop-works-preserved : goal.loop-works-preserved
loop-works-preserved g c = λ s represents h.
    let first = c.loop-works.invariant s represents h in
    let done = same_gone c.args.now s c.loop-works.engine c.loop-works.failed.items c.reserve.new.self.items _ _ _ c.loop-works.works c.loop-works.faults c.reserve.ensures.items first in
    let one = acted done.some.last c.args.now c.in-Ok-Did.field-0 c.in-Ok-Did.effects c.work.new.self c.in-Ok-Did.field-0-is (c.in-Ok-Did.ensures.ok done.some.last done.some.represents) in
    let there = emitted_there c.args.now s c.loop-works.engine c.reserve.new.self.items _ _ _ c.loop-works.works c.loop-works.faults done c.in-Ok-Did.effects.items c.work.new.self one c.effects_name_open_ends.ensures.takes c.effects_name_open_ends.ensures.acts c.ended_connections_and_links_stay_ended.ensures.acts h in
    let short = emitted_short c.args.now s c.loop-works.engine c.reserve.new.self.items _ _ _ c.loop-works.works c.loop-works.faults done c.in-Ok-Did.effects.items c.work.new.self one c.an_act_has_three_effects_at_most.ensures in
    let long = ap (λ (es : List Effect). length es) c.deref.ensures.value in
    let out = same_emitted one.after c.reserve.new.self.items c.in-Ok-Did.effects.items c.deref.result.now c.carry_out.new.engine c.carry_out.new.failed.items _ _ _ c.in-Ok-carry_out.more c.deref.ensures.value
    (c.in-Ok-carry_out.ensures.ok one.after one.represents (subst (λ (es : List Effect). EndNumbersWereGiven one.after (map end_of_effect es)) (sym c.deref.ensures.value) there)) in
    let count = c.in-Ok-carry_out.ensures.few in
    let small : c.in-Ok-carry_out.more ≤ 3 = omega (arith, count, long, short) in
    let few = done.few in
    let within = c.loop-works-test.true in
    let sum : c.saturating_add-faults.result ≡ c.loop-works.faults + c.in-Ok-carry_out.more = search rules in
    worked_more c.args.now s c.loop-works.engine c.reserve.new.self.items _ _ _ c.loop-works.works c.loop-works.faults done c.in-Ok-Did.effects.items c.work.new.self one c.carry_out.new.engine c.carry_out.new.failed.items _ _ _ c.in-Ok-carry_out.more c.saturating_add-faults.result sum small out
    (λ x y p q. g.met.K.Sockets.joined _ _ _ x y p q)
