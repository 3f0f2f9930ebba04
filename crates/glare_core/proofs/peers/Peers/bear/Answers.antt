use Rattle.std.proofs.Common.{ap, ◌∙◌, ◌≡◌, sym, subst, IfOk}
use Rattle.std.specs.FinMap.{len, contains_key}
use Rattle.glare_core.specs.declared.answers.Keying.{Keying}
use Rattle.glare_core.specs.declared.answers.Way.{Way}
use Rattle.glare_core.specs.declared.answers.Heard.TheVariants.{Birth}
use Rattle.glare_core.specs.Ledger.{Ledger, PeerRows, held_with, knows}
use Rattle.glare_core.specs.Calls.{heard, heard_facts, heard_noted}
use Rattle.glare_core.specs.Account.{Gave}
use Rattle.glare_core.specs.Rows.{IsRoom}
use Rattle.glare_core.proofs.Giving.{birth_noted, birth_is_heard, birth_room, gave_as_heard}
use Rattle.glare_core.proofs.Judging.{birth_so}
use Rattle.glare_core.proofs.peers.Peers.bear.Goals as goal
use Rattle.glare_core.proofs.peers.Peers.bear.Goals.{in-Ok, in-Err}

pub invariant_of-self : goal.invariant_of-self
invariant_of-self c =
    let rows : PeerRows = c.self.inside.rows in
    let so = birth_so c.args.self.now c.args.keying.now c.requires.judged.0 c.args.way.now c.requires.judged.1 in
    let known_is : contains_key rows c.args.keying.now.peer ≡ c.args.way.now.known =
    ap (λ l. knows l c.args.keying.now.peer) c.self.view_is ∙ sym (ap (λ (w : Way). w.known) so.way_is) in
    let room : IsRoom c.args.way.now.known (len rows) c.self.inside.max_peers =
    subst (λ known. IsRoom known (len rows) c.self.inside.max_peers) known_is
    (birth_room c.self.inside.own c.self.inside.max_peers c.self.inside.started rows c.args.self.now c.self.view_is c.self.invariant c.args.keying.now c.requires.judged.0 so.unrefused) in
    c.note_after.ensures.room c.self.inside.max_peers room c.self.invariant

pub returns-clause-ok : goal.returns-clause-ok
returns-clause-ok c =
    let keying : Keying = c.args.keying.now in
    let new : Ledger = record { own = c.self.inside.own; max_peers = c.self.inside.max_peers; started = c.self.inside.started; rows = c.note_after.new.self } in
    let so = birth_so c.args.self.now keying c.requires.judged.0 c.args.way.now c.requires.judged.1 in
    let held_is : c.args.way.now.held ≡ held_with c.args.self.now keying.peer = ap (λ (w : Way). w.held) so.way_is in
    elim c.match-note_after.branch [
      | in-Ok w ↦
          subst (λ r. IfOk r (λ facts. (Birth facts.0 facts.1 ≡ heard c.args.self.now keying c.args.near c.args.nr) × (new ≡ heard_noted c.args.self.now (Birth facts.0 facts.1)))) (sym w.result-is) (
            birth_is_heard c.self.inside.own c.self.inside.max_peers c.self.inside.started c.self.inside.rows c.note_after.new.self c.args.self.now c.self.view_is
                keying c.args.near c.args.nr c.way_made-ended.result c.args.way.now.held held_is c.way_made-ended.ensures.fact so.fresh,
            birth_noted c.self.inside.own c.self.inside.max_peers c.self.inside.started c.self.inside.rows c.note_after.new.self c.args.self.now c.self.view_is
                keying c.args.near c.args.nr c.way_made-ended.result c.args.way.now.held w.in-Ok.ensures.rows c.way_made-ended.ensures.of,
          )
      | in-Err w ↦ subst (λ r. IfOk r (λ facts. (Birth facts.0 facts.1 ≡ heard c.args.self.now keying c.args.near c.args.nr) × (new ≡ heard_noted c.args.self.now (Birth facts.0 facts.1)))) (sym w.result-is) tt
    ]

pub returns-clause-gave : goal.returns-clause-gave
returns-clause-gave c =
    let keying : Keying = c.args.keying.now in
    let new : Ledger = record { own = c.self.inside.own; max_peers = c.self.inside.max_peers; started = c.self.inside.started; rows = c.note_after.new.self } in
    let so = birth_so c.args.self.now keying c.requires.judged.0 c.args.way.now c.requires.judged.1 in
    let held_is : c.args.way.now.held ≡ held_with c.args.self.now keying.peer = ap (λ (w : Way). w.held) so.way_is in
    elim c.match-note_after.branch [
      | in-Ok w ↦
          subst (λ r. IfOk r (λ facts. Gave c.args.self.now (heard_facts (Birth facts.0 facts.1)) new)) (sym w.result-is)
          (gave_as_heard c.args.self.now new keying c.args.near c.args.nr c.requires.judged.0 (Birth c.way_made-ended.result _)
          (birth_noted c.self.inside.own c.self.inside.max_peers c.self.inside.started c.self.inside.rows c.note_after.new.self c.args.self.now c.self.view_is
          keying c.args.near c.args.nr c.way_made-ended.result c.args.way.now.held w.in-Ok.ensures.rows c.way_made-ended.ensures.of)
          (birth_is_heard c.self.inside.own c.self.inside.max_peers c.self.inside.started c.self.inside.rows c.note_after.new.self c.args.self.now c.self.view_is
          keying c.args.near c.args.nr c.way_made-ended.result c.args.way.now.held held_is c.way_made-ended.ensures.fact so.fresh)
          c.requires.other so.heard)
      | in-Err w ↦ subst (λ r. IfOk r (λ facts. Gave c.args.self.now (heard_facts (Birth facts.0 facts.1)) new)) (sym w.result-is) tt
    ]
