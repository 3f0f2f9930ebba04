use Rattle.std.proofs.Common.{sym, subst}
use Rattle.std.specs.Option.{option_copied}
use Rattle.endpoint_model.specs.Event.{Call}
use Rattle.log_facts.specs.Lines.{WholeLine}
use Rattle.log_packets.specs.Asked.{Tells}
use Rattle.log_entries.proofs.Scenes.{comes, found, taken}
use Rattle.log_entries.proofs.facts.fact_judged.Goals as goal

pub returns : goal.returns
returns c = λ setup now e before past s reads h.
    subst (λ (it : Call). Tells (WholeLine c.args.secrets.now setup now it past c.args.rest.now c.args.fact.now) c.fact_line.result) (sym s.call_is)
    (c.fact_line.ensures setup now past c.args.scene.now.plain.now (sym s.party_is.own_is) h.watch.digest
    (comes c.args.secrets.now setup now e before past c.args.scene.now c.args.watch.now c.args.way s h (option_copied c.args.packet) reads)
    (taken c.args.secrets.now setup now e before past c.args.scene.now c.args.watch.now c.args.way s h)
    (found c.args.secrets.now setup now e before past c.args.scene.now c.args.watch.now c.args.way s h c.is_borne-borne.result c.last_taken-last.result c.args.fact.now
    (λ j is. c.is_borne-borne.ensures setup now e before past j s reads h is) c.last_taken-last.ensures))
