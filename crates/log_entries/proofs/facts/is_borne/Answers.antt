use Rattle.std.specs.Option.{option_copied}
use Rattle.log_entries.proofs.Scenes.{borne, comes, stays}
use Rattle.log_entries.proofs.facts.is_borne.Goals as goal

pub returns-in-Born : goal.returns-in-Born
returns-in-Born c = λ setup now e before past j s reads h is.
    borne c.args.secrets.now setup now e before past c.args.scene.now c.args.watch.now c.args.way s h c.args.fact.now c.in-Born.joined j c.born.result c.in-Born.is is
    (c.born.ensures setup now past c.args.scene.now.plain.now s.party_is h.watch.digest (comes c.args.secrets.now setup now e before past c.args.scene.now c.args.watch.now c.args.way s h (option_copied c.args.packet) reads)
    (stays c.args.secrets.now setup now e before past c.args.scene.now c.args.watch.now c.args.way s h) h.way_is)

pub returns-in_default : goal.returns-in_default
returns-in_default c = λ setup now e before past j s reads h is. absurd (c.in_default.not-Born j is)
