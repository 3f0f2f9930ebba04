-- Options one after another.
use Rattle.std.proofs.Common.{◌≡◌, ℕ, zero, suc, ◌-◌, ◌<◌, ◌≤◌, List, [], ◌∷◌, ◌++◌, length, take, drop, Option, Some, None, Result, Ok, Err, refl, sym, ap, subst, ◌∙◌, append_assoc, arith}
use Rattle.std.proofs.lemmas.List.{length-append, append-nil, take-append-drop, length-drop}
use Rattle.rtmfp_vlu.specs.Vlu.{VluSpells}
use Rattle.rtmfp_vlu.proofs.Bytes.{IsBytes, IsBytes-drop}
use Rattle.rtmfp_vlu.proofs.Fields.{front, behind}
use Rattle.rtmfp_vlu.proofs.Spellings.{IsEnded-some}
use Rattle.rtmfp_forms.specs.declared.fault.FormFault.{FormFault}
use Rattle.std.specs.Borrow.{Bor}
use Rattle.std.specs.Option.{option_map}
use Rattle.rtmfp_forms.specs.declared.options.OptionView.{OptionView}
use Rattle.rtmfp_forms.specs.Options.{OptionParts, PieceSpells, PiecesSpell, OptionsSpell, IsFaultAt, HasFault, Lists}
use Rattle.rtmfp_forms.specs.OptionReading.{Shows, piece_of, option_parts, piece_then, options_within, options_then, options_in, found_or_none}
use Rattle.rtmfp_forms.proofs.Pieces.{PieceIs, piece_is, marker_again, piece_again, fault_again}

pub PieceSpells-some : (o : OptionParts) (p : List ℕ) → PieceSpells o p → 1 ≤ length p
PieceSpells-some o p h = omega (arith, ap length h.whole, IsEnded-some h.size_bytes h.size.ended, length-append h.size_bytes (h.kind_bytes ++ o.value))

-- one more at the end
pub PiecesSpell-push : (os : List OptionParts) (pieces : List ℕ) (o : OptionParts) (p : List ℕ) → PiecesSpell os pieces → PieceSpells o p → PiecesSpell (os ++ o ∷ []) (pieces ++ p)
PiecesSpell-push [] pieces o p h one = (p, [], rw (h, append-nil p) refl, one, refl)
PiecesSpell-push (q ∷ os) pieces o p (piece, rest, e, first, others) one =
    (piece, rest ++ p, ap (λ (t : List ℕ). t ++ p) e ∙ append_assoc piece rest p, first, PiecesSpell-push os rest o p others one)

-- ---- what is spelled is read, and each fault is found

again_within : (os : List OptionParts) (pieces marker x : List ℕ) (steps : ℕ) → PiecesSpell os pieces → VluSpells 0 marker → length pieces < steps
    → options_within steps (pieces ++ (marker ++ x)) ≡ Ok (os, x)
unfolding options_within
again_within os pieces marker x zero h m lt = absurd (omega (arith, lt))
again_within [] pieces marker x (suc steps) h m lt = rw (h, marker_again marker x m) refl
again_within (o ∷ os) pieces marker x (suc steps) (p, q, e, first, others) m lt =
    let whole : pieces ++ (marker ++ x) ≡ p ++ (q ++ (marker ++ x)) = ap (λ (t : List ℕ). t ++ (marker ++ x)) e ∙ append_assoc p q (marker ++ x) in
    let fewer : length q < steps = omega (arith, lt, ap length e, length-append p q, PieceSpells-some o p first) in
    rw (whole, piece_again o p (q ++ (marker ++ x)) first, again_within os q marker x steps others m fewer) refl

fault_within : (fault : FormFault) (os : List OptionParts) (pieces rest : List ℕ) (steps : ℕ) → PiecesSpell os pieces → IsFaultAt fault rest → length pieces < steps
    → options_within steps (pieces ++ rest) ≡ Err fault
unfolding options_within
fault_within fault os pieces rest zero h f lt = absurd (omega (arith, lt))
fault_within fault [] pieces rest (suc steps) h f lt = rw (h, fault_again fault rest f) refl
fault_within fault (o ∷ os) pieces rest (suc steps) (p, q, e, first, others) f lt =
    let whole : pieces ++ rest ≡ p ++ (q ++ rest) = ap (λ (t : List ℕ). t ++ rest) e ∙ append_assoc p q rest in
    let fewer : length q < steps = omega (arith, lt, ap length e, length-append p q, PieceSpells-some o p first) in
    rw (whole, piece_again o p (q ++ rest) first, fault_within fault os q rest steps others f fewer) refl

pub options_again : (os : List OptionParts) (s x : List ℕ) → OptionsSpell os s → options_then (s ++ x) ≡ Ok (os, x)
unfolding options_then
options_again os s x h =
    let whole : s ++ x ≡ h.pieces ++ (h.marker ++ x) = ap (λ (t : List ℕ). t ++ x) h.whole ∙ append_assoc h.pieces h.marker x in
    let enough : length h.pieces < suc (length (s ++ x)) = omega (arith, ap length whole, length-append h.pieces (h.marker ++ x)) in
    ap (options_within (suc (length (s ++ x)))) whole ∙ again_within os h.pieces h.marker x (suc (length (s ++ x))) h.each h.is_marker enough

pub options_fault : (fault : FormFault) (b : List ℕ) → HasFault fault b → options_then b ≡ Err fault
unfolding options_then
options_fault fault b h =
    let enough : length h.pieces < suc (length b) = omega (arith, ap length h.whole, length-append h.pieces h.rest) in
    ap (options_within (suc (length b))) h.whole ∙ fault_within fault h.options h.pieces h.rest (suc (length b)) h.each h.is_fault enough

pub options_in-spelled : (os : List OptionParts) (s : List ℕ) → OptionsSpell os s → options_in s ≡ os
options_in-spelled os s h = ap found_or_none (ap options_then (sym (append-nil s)) ∙ options_again os s [] h)

-- ---- the reader's answer is exact

ok_or_err : {A : Type 0} (x : A) (fault : FormFault) → let read : Result A FormFault = Ok x in read ≡ Err fault → ⊥
ok_or_err x fault e = absurd cc

err_is : {A : Type 0} (e f : FormFault) → let read : Result A FormFault = Err e in read ≡ Err f → e ≡ f
err_is e f h = cc

ok_is : {A : Type 0} (x y : A) → let read : Result A FormFault = Ok x in read ≡ Ok y → x ≡ y
ok_is x y e = cc

pub exact_from : (b : List ℕ) (r : Result (List OptionParts × ℕ) FormFault) → Lists b r → Shows (λ found. (found.0, drop found.1 b)) r (options_then b)
exact_from b (Ok found) h = ap options_then (sym (take-append-drop found.1 b)) ∙ options_again found.0 (take found.1 b) (drop found.1 b) h.1
exact_from b (Err fault) h = options_fault fault b h

pub complete_from : (b : List ℕ) (r : Result (List OptionParts × ℕ) FormFault) → Lists b r → (os : List OptionParts) (n : ℕ) → n ≤ length b → OptionsSpell os (take n b) → r ≡ Ok (os, n)
complete_from b (Ok found) l os n le h =
    let read : options_then b ≡ Ok (os, drop n b) = ap options_then (sym (take-append-drop n b)) ∙ options_again os (take n b) (drop n b) h in
    let same = ok_is (found.0, drop found.1 b) (os, drop n b) (sym (exact_from b (Ok found) l) ∙ read) in
    let list : found.0 ≡ os = ap (λ (x : List OptionParts × List ℕ). x.0) same in
    let rest : drop found.1 b ≡ drop n b = ap (λ (x : List OptionParts × List ℕ). x.1) same in
    let used : found.1 ≡ n = omega (arith, l.0, le, ap length rest, length-drop found.1 b, length-drop n b) in
    rw (← list, ← used) refl
complete_from b (Err fault) l os n le h =
    let read : options_then b ≡ Ok (os, drop n b) = ap options_then (sym (take-append-drop n b)) ∙ options_again os (take n b) (drop n b) h in
    absurd (ok_or_err (os, drop n b) fault (sym read ∙ options_fault fault b l))

pub faults_from : (b : List ℕ) (r : Result (List OptionParts × ℕ) FormFault) → Lists b r → (fault : FormFault) → (r ≡ Err fault → HasFault fault b) × (HasFault fault b → r ≡ Err fault)
faults_from b (Ok found) l fault =
    (λ e. absurd (ok_or_err found fault e), λ h. absurd (ok_or_err (found.0, drop found.1 b) fault (sym (exact_from b (Ok found) l) ∙ options_fault fault b h)))
faults_from b (Err first) l fault =
    (λ e. subst (λ (f : FormFault). HasFault f b) (err_is first fault e) l, λ h. sym (ap (λ (f : FormFault). Err f) (err_is fault first (sym (options_fault fault b h) ∙ options_fault first b l))))

-- ---- the iterator

pub record Next (os : List OptionParts) (o : OptionParts) (after : List ℕ) : Type 0 where
  pub first : os ≡ o ∷ options_in after
  pub others : OptionsSpell (options_in after) after

at_marker : (b : List ℕ) → OptionsSpell [] b → piece_then b ≡ Ok (None, [])
at_marker b h =
    let whole : b ≡ h.marker ++ [] = h.whole ∙ ap (λ (t : List ℕ). t ++ h.marker) h.each ∙ sym (append-nil h.marker) in
    ap piece_then whole ∙ marker_again h.marker [] h.is_marker

at_option : (o : OptionParts) (os : List OptionParts) (b : List ℕ) → OptionsSpell (o ∷ os) b → (after : List ℕ) × (piece_then b ≡ Ok (Some o, after)) × OptionsSpell os after
at_option o os b h =
    let p = h.each.0 in
    let after = h.each.1 ++ h.marker in
    let whole : b ≡ p ++ after = h.whole ∙ ap (λ (t : List ℕ). t ++ h.marker) h.each.2 ∙ append_assoc p h.each.1 h.marker in
    (after, ap piece_then whole ∙ piece_again o p after h.each.3, record { pieces = h.each.1; marker = h.marker; whole = refl; each = h.each.4; is_marker = h.is_marker })

not_none : (o : OptionParts) → let none : Option OptionParts = None in none ≡ Some o → ⊥
not_none o e = absurd cc

some_is : (o q : OptionParts) → let one : Option OptionParts = Some o in one ≡ Some q → o ≡ q
some_is o q e = cc

none_or_some : (o : OptionParts) (after rest : List ℕ) → let read : Result (Option OptionParts × List ℕ) FormFault = Ok (None, rest) in read ≡ Ok (Some o, after) → ⊥
none_or_some o after rest e = not_none o (ap (λ (x : Option OptionParts × List ℕ). x.0) (ok_is (None, rest) (Some o, after) e))

same_piece : (o q : OptionParts) (after rest : List ℕ) → let read : Result (Option OptionParts × List ℕ) FormFault = Ok (Some o, rest) in read ≡ Ok (Some q, after) → (o ≡ q) × (rest ≡ after)
same_piece o q after rest e =
    let same = ok_is (Some o, rest) (Some q, after) e in
    (some_is o q (ap (λ (x : Option OptionParts × List ℕ). x.0) same), ap (λ (x : Option OptionParts × List ℕ). x.1) same)

pub next_option : (os : List OptionParts) (b : List ℕ) (o : OptionParts) (after : List ℕ) → OptionsSpell os b → piece_then b ≡ Ok (Some o, after) → Next os o after
next_option [] b o after h e = absurd (none_or_some o after [] (sym (at_marker b h) ∙ e))
next_option (q ∷ os) b o after h e =
    let at = at_option q os b h in
    let same = same_piece q o after at.0 (sym at.1 ∙ e) in
    let others : OptionsSpell os after = subst (OptionsSpell os) same.1 at.2 in
    let list : options_in after ≡ os = options_in-spelled os after others in
    record { first = rw (list, same.0) refl; others = rw list others }

pub no_next : (os : List OptionParts) (b after : List ℕ) → OptionsSpell os b → piece_then b ≡ Ok (None, after) → os ≡ []
no_next [] b after h e = refl
no_next (o ∷ os) b after h e = let at = at_option o os b h in absurd (none_or_some o at.0 after (sym e ∙ at.1))

pub no_fault : (os : List OptionParts) (b : List ℕ) (fault : FormFault) → OptionsSpell os b → piece_then b ≡ Err fault → ⊥
no_fault [] b fault h e = ok_or_err (None, []) fault (sym (at_marker b h) ∙ e)
no_fault (o ∷ os) b fault h e = let at = at_option o os b h in ok_or_err (Some o, at.0) fault (sym at.1 ∙ e)

-- ---- what the reader of a piece answered

pub shown_piece : (r : Result (Option OptionView × Bor (List ℕ)) FormFault) (read : Result (Option OptionParts × List ℕ) FormFault) (f g : Option OptionView) (after : Bor (List ℕ))
    → Shows piece_of r read → r ≡ Ok (f, after) → f ≡ g → read ≡ Ok (option_map option_parts g, after.now)
shown_piece r read f g after h e s = rw (e, s) at h

pub shown_fault : (r : Result (Option OptionView × Bor (List ℕ)) FormFault) (read : Result (Option OptionParts × List ℕ) FormFault) (fault : FormFault)
    → Shows piece_of r read → r ≡ Err fault → read ≡ Err fault
shown_fault r read fault h e = rw e at h

-- ---- the walk over the pieces

-- whole options up to the rest
abbrev pub Walked : List ℕ → List ℕ → Type 0
Walked bytes rest = (os : List OptionParts) × (pieces : List ℕ) × (bytes ≡ pieces ++ rest) × PiecesSpell os pieces

rest_fits : (bytes rest : List ℕ) → IsBytes bytes → Walked bytes rest → IsBytes rest
rest_fits bytes rest fits w = subst IsBytes (behind bytes w.1 rest w.2) (IsBytes-drop (length w.1) bytes fits)

pub walked_fault : (bytes rest : List ℕ) (fault : FormFault) → IsBytes bytes → Walked bytes rest → piece_then rest ≡ Err fault → HasFault fault bytes
walked_fault bytes rest fault fits w e = record {
  options = w.0;
  pieces = w.1;
  rest = rest;
  whole = w.2;
  each = w.3;
  is_fault = rw e at (piece_is rest (rest_fits bytes rest fits w));
}

pub walked_on : (bytes rest : List ℕ) (o : OptionParts) (after : List ℕ) → IsBytes bytes → Walked bytes rest → piece_then rest ≡ Ok (Some o, after) → Walked bytes after × (length after < length rest)
walked_on bytes rest o after fits w e =
    let p : PieceIs rest (Ok (Some o, after)) = rw e at (piece_is rest (rest_fits bytes rest fits w)) in (
      (w.0 ++ o ∷ [], w.1 ++ p.0, w.2 ∙ ap (λ (t : List ℕ). w.1 ++ t) p.1 ∙ sym (append_assoc w.1 p.0 after), PiecesSpell-push w.0 w.1 o p.0 w.3 p.2),
      omega (arith, ap length p.1, length-append p.0 after, PieceSpells-some o p.0 p.2),
    )

-- all up to the marker is a list of options
pub record Ended (bytes after : List ℕ) : Type 0 where
  pub within : length after ≤ length bytes
  pub spells : OptionsSpell (options_in (take (length bytes - length after) bytes)) (take (length bytes - length after) bytes)

pub walked_end : (bytes rest after : List ℕ) → IsBytes bytes → Walked bytes rest → piece_then rest ≡ Ok (None, after) → Ended bytes after
walked_end bytes rest after fits w e =
    let m : PieceIs rest (Ok (None, after)) = rw e at (piece_is rest (rest_fits bytes rest fits w)) in
    let s = w.1 ++ m.0 in
    let whole : bytes ≡ s ++ after = w.2 ∙ ap (λ (t : List ℕ). w.1 ++ t) m.1 ∙ sym (append_assoc w.1 m.0 after) in
    let used : length bytes - length after ≡ length s = omega (arith, ap length whole, length-append s after) in
    let is : take (length bytes - length after) bytes ≡ s = rw used (front bytes s after whole) in
    let spells : OptionsSpell w.0 s = record { pieces = w.1; marker = m.0; whole = refl; each = w.3; is_marker = m.2 } in
    record { within = omega (arith, ap length whole, length-append s after); spells = rw (is, options_in-spelled w.0 s spells) spells }
