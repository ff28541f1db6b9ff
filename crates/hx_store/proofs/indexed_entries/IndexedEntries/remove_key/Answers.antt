use Rattle.std.proofs.Common.{sym, ◌∙◌}
use Rattle.hx_store.proofs.IndexedLists.{key-end, key-smaller, key-step}
use Rattle.hx_store.proofs.indexed_entries.IndexedEntries.remove_key.Goals as goal

pub loop-serial-smaller-in-Some : goal.loop-serial-smaller-in-Some
loop-serial-smaller-in-Some c =
    key-smaller c.in-Some.serial c.args.key.now c.loop-serial.self c.remove.new.self (sym c.first_of.ensures.first ∙ c.in-Some.is) c.remove.ensures.entries

pub loop-serial-preserved-in-Some : goal.loop-serial-preserved-in-Some
loop-serial-preserved-in-Some c =
    key-step c.in-Some.serial c.args.key.now c.loop-serial.self c.remove.new.self c.first_of.ensures.distinct (sym c.first_of.ensures.first ∙ c.in-Some.is)
    c.remove.ensures.entries
    ∙ c.loop-serial.invariant

pub loop-serial-smaller : goal.loop-serial-smaller
loop-serial-smaller c =
    key-smaller c.in-Some.serial c.args.key.now c.loop-serial.self c.remove.new.self (sym c.first_of.ensures.first ∙ c.in-Some.is) c.remove.ensures.entries

pub loop-serial-preserved : goal.loop-serial-preserved
loop-serial-preserved c =
    key-step c.in-Some.serial c.args.key.now c.loop-serial.self c.remove.new.self c.first_of.ensures.distinct (sym c.first_of.ensures.first ∙ c.in-Some.is)
    c.remove.ensures.entries
    ∙ c.loop-serial.invariant

pub returns : goal.returns
returns c = sym (key-end c.args.key.now c.loop-serial.self (sym c.first_of.ensures.first ∙ c.in_default.is)) ∙ c.loop-serial.invariant
