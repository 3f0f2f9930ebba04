-- `address` reads the first word of the slice.
use Rattle.std.proofs.Common.{◌≡◌, List, [], ◌∷◌, length, refl}
use mir.Syntax.{named}
use mir.Val.{Val, vptr}
use base.Logic.{emp}
use types.Kit.{‵, raw, ◌⊛◌, ◌$◌, ◌∵◌, !, qed, by, keep, split, fjoin, feq_i, use0}
use types.Part.{whole, sub}
use types.Run.{stop, fld, hop, from, addr, returns, enter}
use types.ByLocal.{alloc_all, pass_all, free_all, look_at, look_in_at, sets}
use contract.Monad.{fact, fact_i}
use contract.Running.{tables}
use denote.Builtin.{u8}
use denote.Exit.{yes}
use denote.RattleType.{owns}
use denote.RawPtr.{block_ptr}
use denote.Signature.{plain, shr_slice_of}
use denote.Slice.{ShrSlice, slice_val, shr_slice_vals, shr_slice_Tells}
use denote.Steps.{nothing}
use denote.Triple.Entry.{alive}
use denote.Triple.Walked.{Stays, stay_dropped, walk_of, Goes-dropped}
use Rattle.std.proofs.raw_atomic.Walks.{proved, leaves}
use Rattle.c_shapes.specs.contracts.address.address as f
use Rattle.c_shapes.specs.contracts.address.address.Key.{name as #self}
use Rattle.c_shapes.proofs.address.address.Statement.{statement}
use Rattle.c_shapes.proofs.address.address.Code as code

abbrev stayed : Stays f.ended.signature.params f.ended.kept
stayed = (stay_dropped (shr_slice_of (0 ∷ []) tt (plain (λ _. u8))) yes, tt)

pub address_spec : {M : Type 1} → statement M
address_spec 𝓤 𝓛 𝓜 𝓡 wired =
    let c = f.clauses 𝓛 𝓜.mem 𝓡.returns in let 𝓣 = tables 𝓤 𝓛.H 𝓜 𝓡 𝓡.env in let W = walk_of 𝓛 f.ended stayed c in
    proved 𝓛 f.ended stayed c 𝓜 𝓡 (Goes-dropped 𝓛 1 (shr_slice_of (0 ∷ []) tt (plain (λ _. u8))) yes (λ κs x g. refl), tt) #self code.function (code.unfolded 𝓤 𝓛.H 𝓜 𝓡 wired)
    (λ κs. (shr_slice_vals, tt)) (λ κs. (shr_slice_Tells (named 0) κs.0 u8, tt)) (λ κs qs bounds a g are.
    let b = a.0.ref_ptr.0 in let o = a.0.ref_ptr.1 in
    let y : W.Ghost = ((κs, qs, bounds, a, (shr_slice_vals a.0, tt)), g) in
    qed 𝓛 ((raw (alive 𝓛 f.ended.signature κs qs) ⊛ ‵ (owns (ShrSlice (named 0) κs.0 u8 ∷ []) a (shr_slice_vals a.0, tt))) ∷ raw ((c κs a).requires g) ∷ []) ∵ split ! $
    enter ! 𝓣.C 𝓣.Λ code.function (slice_val (b, o) (length a.0.now) ∷ []) (W.post y) $
    alloc_all ! (λ l. pass_all ! refl ((tt, (tt, (record { fits = are.0.0.1.0 }, tt))), tt) $
    sets ! (addr ! (from ! (fld ! refl (hop ! (look_in_at ! 1 (sub ! 0 refl (whole !))) (stop !))))) refl (tt, tt) $
    feq_i ! (List Val) (vptr b o ∷ []) (vptr b o ∷ []) refl $
    use0 𝓛 (raw (fact 𝓤 (block_ptr b o ≡ block_ptr b o))) (fact_i 𝓤 (block_ptr b o ≡ block_ptr b o) (emp 𝓤) refl) $ nothing ! $ nothing ! $ fjoin ! $
    returns ! (look_at ! 0 refl) $ free_all ! refl $ keep ! (3 ∷ 0 ∷ 2 ∷ 1 ∷ []) $
    by ! (leaves 𝓛 f.ended stayed c y (vptr b o) (block_ptr b o) (tt, tt) (tt, tt))))
