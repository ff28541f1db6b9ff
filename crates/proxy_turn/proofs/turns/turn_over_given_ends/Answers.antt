use Rattle.std.proofs.Common.{◌≡◌, ◌+◌, refl, rules}
use Rattle.proxy_turn.proofs.Whole.{listed_there, same_list, asks_alone, reads_last, works_last, read_orderly, whole, few_works}
use Rattle.proxy_turn.proofs.turns.turn_over_given_ends.Goals as goal

pub returns-in-Err-clause-turns : goal.returns-in-Err-clause-turns
returns-in-Err-clause-turns g c = λ s represents h.
    let first = c.accept_all-asked.ensures s represents in
    let kept = c.keep_readable.ensures first.begun first.represents in
    asks_alone c.args.now c.args.bounds s c.args.ends.now.items c.accept_all-asked.new.engine c.accept_all-asked.new.ends.items _ _ _ c.accept_all-asked.result first c.keep_readable.new.ends.items kept c.in-Err.fault c.in-Err.is

pub returns-in-Err-read_all-clause-turns : goal.returns-in-Err-read_all-clause-turns
returns-in-Err-read_all-clause-turns g c = λ s represents h.
    let first = c.accept_all-asked.ensures s represents in
    let kept = c.keep_readable.ensures first.begun first.represents in
    let there = listed_there c.args.now c.args.bounds s c.args.ends.now.items c.accept_all-asked.new.engine c.accept_all-asked.new.ends.items _ _ _ c.accept_all-asked.result first c.keep_readable.new.ends.items kept c.readable_ends_may_send.ensures.numbered in
    let second = same_list first.begun c.deref.result.now c.keep_readable.new.ends.items c.accept_all-asked.new.engine c.read_all.new.engine _ _ _ _ c.deref.ensures.value there c.in-Err-read_all.ensures.reads first.represents in
    reads_last c.args.now c.args.bounds s c.args.ends.now.items c.accept_all-asked.new.engine c.accept_all-asked.new.ends.items _ _ _ c.accept_all-asked.result first c.keep_readable.new.ends.items kept c.in-Ok.accepted c.in-Ok.is c.read_all.new.engine _ _ c.in-Err-read_all.fault second _ (λ x y p q. g.met.K.Sockets.joined _ _ _ x y p q)

pub returns-in-Err-work_all-clause-turns : goal.returns-in-Err-work_all-clause-turns
returns-in-Err-work_all-clause-turns g c = λ s represents h.
    let first = c.accept_all-asked.ensures s represents in
    let kept = c.keep_readable.ensures first.begun first.represents in
    let there = listed_there c.args.now c.args.bounds s c.args.ends.now.items c.accept_all-asked.new.engine c.accept_all-asked.new.ends.items _ _ _ c.accept_all-asked.result first c.keep_readable.new.ends.items kept c.readable_ends_may_send.ensures.numbered in
    let second = same_list first.begun c.deref.result.now c.keep_readable.new.ends.items c.accept_all-asked.new.engine c.read_all.new.engine _ _ _ _ c.deref.ensures.value there c.in-Ok-read_all.ensures.reads first.represents in
    let still = read_orderly c.args.now c.args.bounds s c.args.ends.now.items c.accept_all-asked.new.engine c.accept_all-asked.new.ends.items _ _ _ c.accept_all-asked.result first c.keep_readable.new.ends.items kept c.in-Ok.accepted c.in-Ok.is c.read_all.new.engine _ _ c.in-Ok-read_all.counts second c.effects_name_open_ends.ensures.takes h in
    works_last c.args.now c.args.bounds s c.args.ends.now.items c.accept_all-asked.new.engine c.accept_all-asked.new.ends.items _ _ _ c.accept_all-asked.result first c.keep_readable.new.ends.items kept c.in-Ok.accepted c.in-Ok.is c.read_all.new.engine _ _ c.in-Ok-read_all.counts second c.work_all.new.engine _ _ c.in-Err-work_all.fault (c.in-Err-work_all.ensures second.some.last second.some.represents still)
    (λ made. g.K.Sockets.Did c.accept_all-asked.new.sockets made c.work_all.new.sockets) _ (λ x y p q. g.met.K.Sockets.joined _ _ _ x y p q) (λ x y p q. g.met.K.Sockets.joined _ _ _ x y p q)

pub returns-clause-turns : goal.returns-clause-turns
returns-clause-turns g c = λ s represents h.
    let first = c.accept_all-asked.ensures s represents in
    let kept = c.keep_readable.ensures first.begun first.represents in
    let there = listed_there c.args.now c.args.bounds s c.args.ends.now.items c.accept_all-asked.new.engine c.accept_all-asked.new.ends.items _ _ _ c.accept_all-asked.result first c.keep_readable.new.ends.items kept c.readable_ends_may_send.ensures.numbered in
    let second = same_list first.begun c.deref.result.now c.keep_readable.new.ends.items c.accept_all-asked.new.engine c.read_all.new.engine _ _ _ _ c.deref.ensures.value there c.in-Ok-read_all.ensures.reads first.represents in
    let still = read_orderly c.args.now c.args.bounds s c.args.ends.now.items c.accept_all-asked.new.engine c.accept_all-asked.new.ends.items _ _ _ c.accept_all-asked.result first c.keep_readable.new.ends.items kept c.in-Ok.accepted c.in-Ok.is c.read_all.new.engine _ _ c.in-Ok-read_all.counts second c.effects_name_open_ends.ensures.takes h in
    let third = c.in-Ok-work_all.ensures second.some.last second.some.represents still in
    let few = few_works c.args.now c.args.bounds s c.args.ends.now.items c.accept_all-asked.new.engine c.accept_all-asked.new.ends.items _ _ _ c.accept_all-asked.result first c.keep_readable.new.ends.items kept c.in-Ok.accepted c.in-Ok.is c.read_all.new.engine _ _ c.in-Ok-read_all.counts second c.work_all.new.engine _ _ c.in-Ok-work_all.counts third in
    let more = c.in-Ok-read_all.ensures.few in
    let sum : c.saturating_add.result ≡ c.in-Ok-read_all.counts.1 + c.in-Ok-work_all.counts.1 = search rules in
    whole c.args.now c.args.bounds s c.args.ends.now.items c.accept_all-asked.new.engine c.accept_all-asked.new.ends.items _ _ _ c.accept_all-asked.result first c.keep_readable.new.ends.items kept c.in-Ok.accepted c.in-Ok.is c.read_all.new.engine _ _ c.in-Ok-read_all.counts second c.work_all.new.engine _ _ c.in-Ok-work_all.counts third _ refl refl refl sum
    (λ made. g.K.Sockets.Did c.accept_all-asked.new.sockets made c.work_all.new.sockets) _ (λ x y p q. g.met.K.Sockets.joined _ _ _ x y p q) (λ x y p q. g.met.K.Sockets.joined _ _ _ x y p q)
