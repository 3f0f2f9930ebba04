-- What a `Loose` is in the machine, a pointer and a handle, and what it owns. Assumes `Logic`.
--     two v w        the machine value of the two
--     Parted         the type, at the rows of its value and of its allocator
--     fits_two       such a value is one of the type's layout
--     apart, whole   what it owns is [the memory and the token of a box; the handle], and the other way
use Rattle.std.proofs.Common.{◌≡◌, ℕ, List, [], ◌∷◌, ◌++◌, refl, subst}
use mathlib.Core.Bool.{true, ◌&&◌}
use lib.Dec.{T}
use seplogic.Ra.Ura.{Ura}
use mir.Syntax.{impl, tnil, dnil}
use mir.Raw.{raw as bare}
use mir.Val.{Val, vptr, vstruct, vcons, vnil, of_list, has_ty, WT}
use base.Logic.{never, fst∗}
use types.Logic.{Logic, sem}
use types.Kit.{Item, Goal, Seq, Step, step, ‵, ◌$◌, move, drop, fsplit, fjoin, fpick, fpack, feq_i, feq_l}
use denote.RattleType.{RattleType, Valss}
use denote.Builtin.{RawPtr}
use denote.Memory.{lone}
use denote.Param.{layout}
use denote.Param.Laws.{Laws}
use denote.RawPtr.{Ptr, block_ptr, null_ptr, ptr_val, in_a_block}
use denote.Steps.{nothing}
use denote.Struct.Struct.{within}
use denote.Struct.Owning.{shape}
use Rattle.std.specs.declared.alloc.Allocator.{Ghosts}
use Rattle.std.proofs.alloc.Calls.{Al, handle_tells}
use Rattle.std.proofs.cell.Inside.{Good}
use Rattle.std.specs.Box.Ownership.{box_owns}
use Rattle.std.proofs.ResultValues.{and_tt}
use Rattle.boxed_word.specs.contracts.loose.Loose as loose

abbrev pub two : Val → Val → Val
two v w = vstruct (vcons v (vcons w vnil))

module _ (R Z : RattleType) (L : Laws Z) (g : Ghosts Z.Denot) where
  abbrev pub Parted : RattleType
  Parted = loose.the_row R Z g

  abbrev handles : Al
  handles = record { row = Z; laws = L; g = g; d = impl [] tnil dnil; drops = impl [] tnil dnil }

  pub fits_two : (b o : ℕ) (h : Val) → Good (layout Z) h → T (has_ty (layout Z) h && true) × WT (two (vptr b o) h)
  fits_two b o h fits = (and_tt (has_ty (layout Z) h) fits.0, (tt, (fits.1, tt)))

  module _ {M : Type 1} {𝓤 : Ura M} {𝓛 : Logic 𝓤} {K : Type 0} {Γ : List (Item 𝓤)} {G : Goal 𝓤 𝓛.H} where
    pub apart : K → (p : Parted.Denot) (vs : List Val)
        → ((b o : ℕ) (h : Val) → p.at ≡ block_ptr b o → vs ≡ two (vptr b o) h ∷ [] → Good (layout Z) h → Seq K 𝓛 (‵ (box_owns (g.dealloc_token p.alloc) R (block_ptr b o) p.value) ∷ ‵ (Z.own_val p.alloc (h ∷ [])) ∷ Γ) G)
        → Seq K 𝓛 (‵ (Parted.own_val p vs) ∷ Γ) G
    apart t p vs k =
        fsplit t $ fpick t (λ vss. fsplit t $ feq_l t (λ is. fsplit t $ feq_l t (λ is_at. fsplit t $ handle_tells handles t p.alloc vss.1.0 (λ h is_alloc fits. move t (1 ∷ []) $ drop t $ move t (1 ∷ []) $
        in_a_block t p.at (λ q. box_owns (g.dealloc_token p.alloc) R q p.value) (fst∗ 𝓤 (never 𝓤) (sem 𝓛 (g.dealloc_token p.alloc (bare (lone R.mir)) null_ptr))) (λ b o e.
        let at_parts = subst (λ (ps : List Val). vs ≡ vstruct (of_list (ps ++ (vss.1.0 ++ []))) ∷ []) is_at is in
        let alloc_parts = subst (λ (ws : List Val). vs ≡ vstruct (of_list (ptr_val p.at ∷ (ws ++ []))) ∷ []) is_alloc at_parts in
        k b o h e (subst (λ (q : Ptr). vs ≡ vstruct (of_list (ptr_val q ∷ h ∷ [])) ∷ []) e alloc_parts) fits)))))

    pub whole : K → (b o : ℕ) (h : Val) (a : Z.Denot) (x : R.Denot)
        → Step K 𝓛 (‵ (Parted.own_val (record { at = block_ptr b o; alloc = a; value = x }) (two (vptr b o) h ∷ [])) ∷ Γ) G (‵ (box_owns (g.dealloc_token a) R (block_ptr b o) x) ∷ ‵ (Z.own_val a (h ∷ [])) ∷ Γ) G
    whole t b o h a x = step (λ s. let v : Val = two (vptr b o) h in
        nothing t $ move t (2 ∷ 0 ∷ []) $ fjoin t $ feq_i t (List Val) (vptr b o ∷ []) (vptr b o ∷ []) refl $ fjoin t $ feq_i t (List Val) (v ∷ []) (v ∷ []) refl $ fjoin t $
        fpack t (Valss (RawPtr ∷ Z ∷ [])) (within (shape (loose.the_type R Z g)) (block_ptr b o, (a, tt)) (v ∷ [])) (vptr b o ∷ [], (h ∷ [], tt)) $ fjoin t $ s)
