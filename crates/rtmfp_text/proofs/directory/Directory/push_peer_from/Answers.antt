use Rattle.std.proofs.Common.{◌≡◌, ◌++◌, List, ℕ, Some, slice_get, sym, ap, ◌∙◌, subst, length, refl}
use Rattle.std.specs.Prelude.{OnOk}
use Rattle.std.proofs.lemmas.Bool.{ltb-true}
use Rattle.std.proofs.lemmas.Option.{slice_get_read}
use Rattle.std.proofs.lemmas.Slice.Eq.{bytes_eq-Decides}
use Rattle.rtmfp_text.specs.declared.names.Named.{Named}
use Rattle.rtmfp_text.specs.Names.{peer_text}
use Rattle.rtmfp_text.proofs.Listed.{peer_there}
use Rattle.rtmfp_text.proofs.directory.Directory.push_peer_from.Goals as goal

pub returns-then-eq : goal.returns-then-eq
returns-then-eq c =
    let ends = c.self.inside.named.items in
    let end = c.in-Some.end.now in
    let seen = c.as_slice.result.now in
    let found = c.in-Some.ensures.lookup in
    let there : slice_get ends c.args.number ≡ Some end =
    subst (λ (es : List Named). slice_get es c.args.number ≡ Some end) c.as_slice.ensures.value
    (slice_get_read seen (length seen) c.args.number end refl (ltb-true c.args.number (length seen) (sym found.0)) found.1) in
    let is : end.print ≡ c.args.print.now = (bytes_eq-Decides end.print c.args.print.now).0 (sym c.eq.ensures ∙ c.if-eq.true) in
    let peer : peer_text c.args.self.now c.args.print.now ≡ end.name =
    ap (λ (es : List Named). peer_text es c.args.print.now) (sym c.self.view_is) ∙ peer_there ends c.args.number end c.args.print.now c.self.invariant there is in
    let P : List ℕ → Type 0 = λ xs. OnOk c.push_plain.result (c.push_plain.new.self ≡ c.args.text.now ++ xs) in
    subst P (c.bytes.ensures ∙ sym peer) c.push_plain.ensures
