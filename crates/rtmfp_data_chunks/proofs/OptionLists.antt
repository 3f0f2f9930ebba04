-- Options where they are flagged, and what follows the numbers of a user data chunk.
use Rattle.std.proofs.Common.{◌≡◌, ℕ, zero, suc, ◌-◌, ◌/◌, ◌%◌, ◌<◌, Bool, true, false, List, [], ◌∷◌, ◌++◌, length, Option, Some, None, Result, Ok, Err, is_some, refl, sym, ap, ◌∙◌, append_assoc, arith}
use Rattle.std.proofs.lemmas.List.{length-append}
use Rattle.rtmfp_vlu.proofs.Bytes.{IsBytes}
use Rattle.rtmfp_forms.specs.declared.fault.FormFault.{FormFault}
use Rattle.rtmfp_forms.specs.Options.{OptionParts, PieceSpells, OptionsSpell, HasFault}
use Rattle.rtmfp_forms.specs.OptionReading.{◌>>=◌, piece_then, options_within, options_then}
use Rattle.rtmfp_forms.proofs.Pieces.{PieceIs, piece_is}
use Rattle.rtmfp_forms.proofs.Lists.{PieceSpells-some, options_again, options_fault}
use Rattle.rtmfp_data_chunks.specs.declared.user_data.Part.{Part}
use Rattle.rtmfp_data_chunks.specs.declared.user_data.Part.TheVariants.{Whole, Begin, End, Middle}
use Rattle.rtmfp_data_chunks.specs.declared.user_data.Numbers.{Numbers}
use Rattle.rtmfp_data_chunks.specs.declared.view.DataFault.{DataFault}
use Rattle.rtmfp_data_chunks.specs.declared.view.DataFault.TheVariants.{Unknown, Malformed, BadOffset}
use Rattle.rtmfp_data_chunks.specs.Chunk.{UserParts}
use Rattle.rtmfp_data_chunks.specs.Fields.{flag, part_number, FlagsTell, OptionsStand, OptionsBreak}
use Rattle.rtmfp_data_chunks.specs.Reader.{listed, options_at, part_numbered, user_then}
use Rattle.rtmfp_data_chunks.proofs.NumberLaws.{bytes_behind}

-- ---- a list of options is spelled, or has a fault

abbrev OptionsAre : List ℕ → Result (List OptionParts × List ℕ) FormFault → Type 0
OptionsAre b (Ok found) = (s : List ℕ) × (b ≡ s ++ found.1) × OptionsSpell found.0 s
OptionsAre b (Err fault) = HasFault fault b

others_are : (b piece rest : List ℕ) (o : OptionParts) (r : Result (List OptionParts × List ℕ) FormFault) → b ≡ piece ++ rest → PieceSpells o piece → OptionsAre rest r
    → OptionsAre b (r >>= λ others. Ok (o ∷ others.0, others.1))
others_are b piece rest o (Ok others) e h m = (
  piece ++ m.0,
  e ∙ ap (λ (t : List ℕ). piece ++ t) m.1 ∙ sym (append_assoc piece m.0 others.1),
  record {
    pieces = piece ++ m.2.pieces;
    marker = m.2.marker;
    whole = ap (λ (t : List ℕ). piece ++ t) m.2.whole ∙ sym (append_assoc piece m.2.pieces m.2.marker);
    each = (piece, m.2.pieces, refl, h, m.2.each);
    is_marker = m.2.is_marker;
  },
)
others_are b piece rest o (Err fault) e h m = record {
  options = o ∷ m.options;
  pieces = piece ++ m.pieces;
  rest = m.rest;
  whole = e ∙ ap (λ (t : List ℕ). piece ++ t) m.whole ∙ sym (append_assoc piece m.pieces m.rest);
  each = (piece, m.pieces, refl, h, m.each);
  is_fault = m.is_fault;
}

abbrev next_options : ℕ → Option OptionParts × List ℕ → Result (List OptionParts × List ℕ) FormFault
next_options steps first = elim first.0 [ None ↦ Ok ([], first.1) | Some o ↦ options_within steps first.1 >>= λ others. Ok (o ∷ others.0, others.1) ]

step_is : (steps : ℕ) (b : List ℕ) (r : Result (Option OptionParts × List ℕ) FormFault) → IsBytes b → length b < suc steps
    → ((t : List ℕ) → IsBytes t → length t < steps → OptionsAre t (options_within steps t)) → PieceIs b r → OptionsAre b (r >>= next_options steps)
step_is steps b (Ok (None, rest)) fits lt ih (marker, e, h) = (marker, e, record { pieces = []; marker = marker; whole = refl; each = refl; is_marker = h })
step_is steps b (Ok (Some o, rest)) fits lt ih (piece, e, h) =
    let shorter : length rest < steps = omega (arith, lt, ap length e, length-append piece rest, PieceSpells-some o piece h) in
    others_are b piece rest o (options_within steps rest) e h (ih rest (bytes_behind b piece rest e fits) shorter)
step_is steps b (Err fault) fits lt ih f = record { options = []; pieces = []; rest = b; whole = refl; each = refl; is_fault = f }

within_are : (steps : ℕ) (b : List ℕ) → IsBytes b → length b < steps → OptionsAre b (options_within steps b)
unfolding options_within
within_are zero b fits lt = absurd (omega (arith, lt))
within_are (suc steps) b fits lt = step_is steps b (piece_then b) fits lt (within_are steps) (piece_is b fits)

options_are : (b : List ℕ) → IsBytes b → OptionsAre b (options_then b)
unfolding options_then
options_are b fits = within_are (suc (length b)) b fits (omega arith)

-- ---- where they are flagged

abbrev pub ListIs : Bool → ℕ → List ℕ → Result (Option (List OptionParts) × List ℕ) DataFault → Type 0
ListIs flagged at b (Ok found) = (s : List ℕ) × (b ≡ s ++ found.1) × OptionsStand found.0 s × (flagged ≡ is_some found.0)
ListIs flagged at b (Err (Unknown told)) = ⊥
ListIs flagged at b (Err (Malformed begins)) = (flagged ≡ true) × ((fault : FormFault) × HasFault fault b) × (begins ≡ at)
ListIs flagged at b (Err (BadOffset begins)) = ⊥

listed_is : (at : ℕ) (b : List ℕ) (r : Result (List OptionParts × List ℕ) FormFault) → OptionsAre b r → ListIs true at b (listed at r)
listed_is at b (Ok found) o = (o.0, o.1, o.2, refl)
listed_is at b (Err fault) o = (refl, (fault, o), refl)

pub list_is : (flagged : Bool) (size : ℕ) (b : List ℕ) → IsBytes b → ListIs flagged (size - length b) b (options_at flagged size b)
unfolding options_at
list_is true size b fits = listed_is (size - length b) b (options_then b) (options_are b fits)
list_is false size b fits = ([], refl, refl, refl)

list_found : (flagged : Bool) (options : Option (List OptionParts)) (size : ℕ) (b s rest : List ℕ) → flagged ≡ is_some options → b ≡ s ++ rest → OptionsStand options s
    → options_at flagged size b ≡ Ok (options, rest)
unfolding options_at
list_found true None size b s rest f e h = absurd (cc)
list_found false None size b s rest f e h = ap (λ (t : List ℕ). Ok (None, t)) (e ∙ ap (λ (t : List ℕ). t ++ rest) h)
list_found true (Some options) size b s rest f e h = rw (e, options_again options s rest h) refl
list_found false (Some options) size b s rest f e h = absurd (cc)

list_broken : (flagged : Bool) (fault : FormFault) (size : ℕ) (b : List ℕ) → flagged ≡ true → HasFault fault b → options_at flagged size b ≡ Err (Malformed (size - length b))
unfolding options_at
list_broken true fault size b f h = rw (options_fault fault b h) refl
list_broken false fault size b f h = absurd (cc)

-- ---- the part

pub part_again : (p : Part) → part_numbered (part_number p) ≡ p
part_again Whole = refl
part_again Begin = refl
part_again End = refl
part_again Middle = refl

pub part_is : (n : ℕ) → n < 4 → n ≡ part_number (part_numbered n)
part_is zero lt = refl
part_is (suc zero) lt = refl
part_is (suc (suc zero)) lt = refl
part_is (suc (suc (suc zero))) lt = refl
part_is (suc (suc (suc (suc n)))) lt = absurd (omega (arith, lt))

-- ---- user data behind its numbers

pub record UserFound (flags : ℕ) (numbers : Numbers) (b : List ℕ) (user : UserParts) : Type 0 where
  pub options : List ℕ
  pub whole : b ≡ options ++ user.bytes
  pub stand : OptionsStand user.options options
  pub tell : FlagsTell flags user
  pub flow : user.flow ≡ numbers.flow
  pub seq : user.seq ≡ numbers.seq
  pub forward : user.forward ≡ numbers.forward

abbrev pub UserIs : ℕ → Numbers → ℕ → List ℕ → Result UserParts DataFault → Type 0
UserIs flags numbers at b (Ok user) = UserFound flags numbers b user
UserIs flags numbers at b (Err (Unknown told)) = ⊥
UserIs flags numbers at b (Err (Malformed begins)) = OptionsBreak flags b × (begins ≡ at)
UserIs flags numbers at b (Err (BadOffset begins)) = ⊥

abbrev user_with : ℕ → Numbers → Option (List OptionParts) × List ℕ → UserParts
user_with flags numbers found = record {
  part = part_numbered (flags / 16 % 4);
  abandon = flag flags 1;
  last = flag flags 0;
  flow = numbers.flow;
  seq = numbers.seq;
  forward = numbers.forward;
  options = found.0;
  bytes = found.1;
}

list_user : (flags : ℕ) (numbers : Numbers) (at : ℕ) (b : List ℕ) (r : Result (Option (List OptionParts) × List ℕ) DataFault) → ListIs (flag flags 7) at b r
    → UserIs flags numbers at b (r >>= λ found. Ok (user_with flags numbers found))
list_user flags numbers at b (Ok found) l = record {
  options = l.0;
  whole = l.1;
  stand = l.2;
  tell = record { options = l.3; part = part_is (flags / 16 % 4) (omega arith); abandon = refl; last = refl };
  flow = refl;
  seq = refl;
  forward = refl;
}
list_user flags numbers at b (Err (Unknown told)) l = l
list_user flags numbers at b (Err (Malformed begins)) l = ((l.0, l.1.0, l.1.1), l.2)
list_user flags numbers at b (Err (BadOffset begins)) l = l

pub user_is : (flags : ℕ) (numbers : Numbers) (size : ℕ) (b : List ℕ) → IsBytes b → UserIs flags numbers (size - length b) b (user_then flags numbers size b)
unfolding user_then
user_is flags numbers size b fits = list_user flags numbers (size - length b) b (options_at (flag flags 7) size b) (list_is (flag flags 7) size b fits)

pub user_found : (flags : ℕ) (numbers : Numbers) (size : ℕ) (b : List ℕ) (user : UserParts) → UserFound flags numbers b user → user_then flags numbers size b ≡ Ok user
unfolding user_then
user_found flags numbers size b user h =
    let part : part_numbered (flags / 16 % 4) ≡ user.part = ap part_numbered h.tell.part ∙ part_again user.part in
    rw (list_found (flag flags 7) user.options size b h.options user.bytes h.tell.options h.whole h.stand, part, h.tell.abandon, h.tell.last, sym h.flow, sym h.seq, sym h.forward) refl

pub user_broken : (flags : ℕ) (numbers : Numbers) (size : ℕ) (b : List ℕ) → OptionsBreak flags b → user_then flags numbers size b ≡ Err (Malformed (size - length b))
unfolding user_then
user_broken flags numbers size b h = rw (list_broken (flag flags 7) h.1 size b h.0 h.2) refl
