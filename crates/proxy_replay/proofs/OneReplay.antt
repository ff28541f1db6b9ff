-- A replay refuses what its script doesn't spell.
use Rattle.std.proofs.Common.{◌≡◌, ℕ, List, [], ◌∷◌, ◌++◌, false, true, sym, ◌∙◌, ap, subst, append-nil}
use Rattle.std.proofs.lemmas.Bool.{false≢true}
use Rattle.proxy_script.specs.Script.{IsScript}
use Rattle.proxy_script.specs.Effects.{effects_text}
use Rattle.proxy_replay.specs.Replay.{OpensEmptyStore, ScriptBytesLeadToStateWhere, IsReplayedOverEmptyStore, ReplayHasOneText}
use Rattle.proxy_replay.specs.OneReplay.{WholeReplayHasOnlyThatText, NoWholeReplayBeforeTheEnd, NoReadFaultAtTheEnd, NothingIsWrittenForARefusedTable}
use Rattle.proxy_replay.proofs.Playing.{begins_empty, runs_empty}

-- bytes that lead to their end are a script
replayed : (script written : List ℕ) → ScriptBytesLeadToStateWhere OpensEmptyStore script (λ items rest effects last. (rest ≡ []) × (written ≡ effects_text effects)) → IsReplayedOverEmptyStore script written
replayed script written to =
    let whole : script ≡ to.leads.front = to.leads.bytes_are ∙ ap (λ (z : List ℕ). to.leads.front ++ z) to.holds.0 ∙ append-nil to.leads.front in
    record {
      table = to.leads.table;
      items = to.items;
      is_script = subst (λ (z : List ℕ). IsScript z to.leads.table to.items) (sym whole) to.leads.script;
      config = to.leads.config;
      reads = to.leads.reads;
      effects = to.effects;
      last = to.last;
      plays = begins_empty to.leads.config to.items to.effects to.last to.leads.held to.leads.first to.leads.opens to.leads.plays;
      run = runs_empty to.leads.config to.items to.effects to.last to.leads.held to.leads.first to.leads.opens to.leads.run;
      emitted = to.holds.1;
    }

pub no_other_text : ReplayHasOneText → WholeReplayHasOnlyThatText
no_other_text one script written other h differ k = differ (one [] 1 script written other (replayed script written h.1) (replayed script other k.1))

pub not_before_its_end : NoWholeReplayBeforeTheEnd
not_before_its_end bytes written h = false≢true h.0

pub no_read_fails_at_the_end : NoReadFaultAtTheEnd
no_read_fails_at_the_end bytes written h = false≢true (sym h.0)

pub nothing_by_a_refused_table : NothingIsWrittenForARefusedTable
nothing_by_a_refused_table bytes written byte ended fault h = let never : byte ∷ written ≡ [] = h.4 in absurd (cc)
