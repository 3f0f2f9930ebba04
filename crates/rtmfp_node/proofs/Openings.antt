-- Openings, one after another.
use Rattle.std.proofs.Common.{◌≡◌, ℕ, ◌+◌, ◌<◌, suc, List, [], ◌∷◌, ◌++◌, drop, take, length, refl, sym, ap, ◌∙◌, subst, Option, Some, get_or, add-one, arith}
use Rattle.std.proofs.Math.Seq.{take-suc}
use Rattle.std.proofs.lemmas.List.{drop-drop}
use Rattle.rtmfp_host.specs.Linking.{LinkSeen}
use Rattle.rtmfp_host.specs.Ticking.{Clock}
use Rattle.rtmfp_host.specs.Drawing.{EntropySeen}
use Rattle.rtmfp_host.specs.Seen.{SinkSeen}
use Rattle.endpoint_model.specs.declared.entry.Entry.{Entry}
use Rattle.endpoint_model.specs.Event.{Event}
use Rattle.endpoint_model.specs.State.{State}
use Rattle.rtmfp_words.specs.declared.opening_words.OpeningWords.{OpeningWords}
use Rattle.rtmfp_node.specs.Outside.{outside}
use Rattle.rtmfp_node.specs.Events.{AreOpened, IsOpened, draws_of}
use Rattle.rtmfp_node.specs.Acting.{AreOpenedBy, DidOpen, Drew, Noted, OpensAll}
use Rattle.rtmfp_node.proofs.Acts.{in_none, in_then}
use Rattle.rtmfp_node.proofs.Told.{By, drew_back, with_blocks}

opened_more : (os : List OpeningWords) (o : OpeningWords) (moment : ℕ) (b c d : Option (List (List ℕ))) (block : List ℕ) (log : List Event) (e : Event) → AreOpenedBy os moment b c log →
    Drew c d block → IsOpened o moment (draws_of block) e → AreOpenedBy (os ++ o ∷ []) moment b d (log ++ e ∷ [])
opened_more [] o moment b c d block log e before drew opened =
    (d, block, e, [], subst (λ (k : Option (List (List ℕ))). Drew k d block) before.1 drew, opened, ap (λ xs. xs ++ e ∷ []) before.0, (refl, refl))
opened_more (p ∷ os) o moment b c d block log e before drew opened = (
  before.0,
  before.1,
  before.2,
  before.3 ++ e ∷ [],
  before.4,
  before.5,
  ap (λ xs. xs ++ e ∷ []) before.6,
  opened_more os o moment before.0 c d block before.3 e before.7 drew opened,
)

opened_told : (os : List OpeningWords) (moment : ℕ) (b a : Option (List (List ℕ))) (log : List Event) (now : List (List ℕ)) → AreOpenedBy os moment b a log → a ≡ Some now →
    (was : List (List ℕ)) × (b ≡ Some was) × AreOpened os moment was log × (now ≡ drop (length os) was)
opened_told [] moment b a log now h e = (now, sym h.1 ∙ e, h.0, refl)
opened_told (o ∷ os) moment b a log now h e =
    let rest = opened_told os moment h.0 a h.3 now h.7 e in
    let first = drew_back b h.0 h.1 rest.0 h.4 rest.1 in
    let sum : suc (length os) ≡ 1 + length os = omega arith in (
      first.0,
      first.1,
      (
        h.2,
        h.3,
        h.6,
        subst (λ k. IsOpened o moment (draws_of k) h.2) first.2 h.5,
        subst (λ k. AreOpened os moment k h.3) first.3 rest.2,
      ),
      rest.3 ∙ ap (drop (length os)) first.3 ∙ drop-drop (length os) 1 first.0 ∙ ap (λ k. drop k first.0) (sym sum),
    )

pub by_opens : (os : List OpeningWords) (moment : ℕ) (log : List Event) (l : LinkSeen) (c : Option Clock) (b a : EntropySeen) (t : SinkSeen) → AreOpenedBy os moment b.blocks a.blocks log →
    By (λ x. with_blocks x (drop (length os) x.blocks)) (λ x. AreOpened os moment x.blocks log) (outside l c b t) (outside l c a t)
by_opens os moment log l c b a t opened = record {
  trace = λ now tells.
      let p = opened_told os moment b.blocks a.blocks log now.blocks opened tells.blocks in (
        with_blocks now p.0,
        record { line = tells.line; clock = tells.clock; blocks = p.1; text = tells.text },
        ap (with_blocks now) p.3,
        p.2,
      );
}

pub opens_none : (moment : ℕ) (b : Option (List (List ℕ))) (s : State) (a : List Entry) (m : Noted) → OpensAll [] moment b b s s a a m m
opens_none moment b s a m = record { log = []; opened = (refl, refl); acts = in_none 0 s a m }

pub opens_next : (os : List OpeningWords) (i : ℕ) (o : OpeningWords) (moment : ℕ) (b c d : Option (List (List ℕ))) (block : List ℕ) (s t u : State) (x y z : List Entry) (m n k : Noted) → i < length os →
    o ≡ get_or os i o → OpensAll (take i os) moment b c s t x y m n → Drew c d block → DidOpen o.whom o.at moment (draws_of block) t u y z n k → OpensAll (take (i + 1) os) moment b d s u x z m k
opens_next os i o moment b c d block s t u x y z m n k within is opens drew did =
    let more : take (i + 1) os ≡ take i os ++ o ∷ [] = ap (λ k. take k os) (add-one i) ∙ take-suc os i o within ∙ ap (λ x. take i os ++ x ∷ []) (sym is) in
    subst (λ xs. OpensAll xs moment b d s u x z m k) (sym more) (record {
      log = opens.log ++ did.event ∷ [];
      opened = opened_more (take i os) o moment b c d block opens.log did.event opens.opened drew did.opened;
      acts = in_then opens.acts did.acts;
    })
