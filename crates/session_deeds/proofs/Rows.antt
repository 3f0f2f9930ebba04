-- Rows of deeds, computed.
use Rattle.std.proofs.Common.{◌++◌, List, ◌≡◌, ℕ, Bool, true, false, [], ◌∷◌, Option, Some, None}
use Rattle.std.proofs.Common.{refl, ap, subst, arith, inl, inr}
use Rattle.rtmfp_vlu.specs.Reading.{end_within, number_at}
use Rattle.rtmfp_forms.specs.OptionReading.{number_then as form_number, counted_then, piece_then}
use Rattle.rtmfp_forms.specs.OptionReading.{options_within, options_then}
use Rattle.rtmfp_chunks.specs.Chunk.{row_of}
use Rattle.rtmfp_chunks.specs.FieldReading.{number_then as vlu_then, more_then, field_then, row_at}
use Rattle.rtmfp_chunks.specs.FieldReading.{chunk_at, chunk_with, chunk_reading}
use Rattle.rtmfp_fragments.specs.Pieces.{piece}
use Rattle.rtmfp_data_chunks.specs.Acked.{spans_within}
use Rattle.rtmfp_data_chunks.specs.HandsOver.{IsIn}
use Rattle.rtmfp_data_chunks.specs.Reader.{number_then, numbers_then, options_at, user_then}
use Rattle.rtmfp_data_chunks.specs.Reader.{data_then}
use Rattle.rtmfp_data_chunks.specs.Reader.{next_then, walk_within, pairs_then, ack_ranges_then}
use Rattle.rtmfp_data_chunks.specs.Reader.{data_reading}
use Rattle.rtmfp_data_chunks.specs.Runs.{Chunk, Run}
use Rattle.flow_recv.specs.Receiver.{Receiver, fresh, taken, next_run, handed_next}
use Rattle.flow_send.specs.Acks.{told}
use Rattle.flow_send.specs.Sender.{new_sender}
use Rattle.flow_exchange.specs.Exchange.{Ack as Written}
use Rattle.flow_exchange.specs.Pair.{ack_by}
use Rattle.flow_exchange.specs.Sending.{Abandons, Finishes, Sends}
use Rattle.flow_history.specs.Flow.{Opened, Carried, acted}
use Rattle.flow_history.specs.Said.{IsGiven, given_by}
use Rattle.flow_history.specs.Deeds.{Piece, Data, Ack, Part}
use Rattle.session_deeds.specs.Deeds.{none_yet}
use Rattle.session_deeds.specs.Goes.{IsSaid}
use Rattle.session_deeds.specs.Pieces.{parts_read}
use Rattle.session_deeds.specs.Edges.{carried, fragment, cut_fragment, ReadsInTurn, an_ack, a_piece, MayBeDone, queue}
use Rattle.session_deeds.specs.Edges.{at_sender, at_receiver, IsStatedAndSaid}

-- ---- what is read

fragment_read : parts_read (chunk_reading fragment.kind fragment.payload) ≡ Part 2 (piece 3 true (0x09 ∷ [])) ∷ []
unfolding end_within number_at vlu_then more_then field_then row_at chunk_at chunk_with chunk_reading row_of
fragment_read = refl

cut_read : parts_read (chunk_reading cut_fragment.kind cut_fragment.payload) ≡ []
unfolding end_within number_at vlu_then more_then field_then row_at chunk_at chunk_with chunk_reading row_of
cut_read = refl

pub reads_in_turn : ReadsInTurn
unfolding end_within number_at form_number counted_then piece_then options_within options_then
    spans_within number_then numbers_then options_at user_then data_then next_then walk_within
    pairs_then ack_ranges_then data_reading
reads_in_turn = record {
  one = refl;
  behind = refl;
  alone = refl;
  apart = refl;
  arriving = refl;
  beside = refl;
  part = ap (λ (parts : List Piece). Data 0 (carried 1 7 None) ∷ (parts ++ [])) fragment_read;
  cut = ap (λ (parts : List Piece). parts ++ []) cut_read;
  acks = refl;
}

-- ---- what may be done

none_some : {A : Type 0} {x : A} → ◌≡◌ {A = Option A} None (Some x) → ⊥
none_some e = absurd cc

some_none : {A : Type 0} {x : A} → ◌≡◌ {A = Option A} (Some x) None → ⊥
some_none e = absurd cc

-- pieces by a number
abbrev order_number : Option Bool → ℕ
order_number None = 0
order_number (Some false) = 1
order_number (Some true) = 2

abbrev piece_number : Piece → ℕ
piece_number (Data f x) = order_number x.order
piece_number (Ack f a) = f
piece_number (Part id x) = 0

-- it isn't the only piece that came
not_there : (p q : Piece) → (piece_number p ≡ piece_number q → ⊥) → IsIn p (q ∷ []) → ⊥
not_there p q ne (inl e) = ne (ap piece_number e)
not_there p q ne (inr h) = absurd h

none_next : (r : Receiver) (y : Run) → Some (fresh false) ≡ Some r → next_run r ≡ Some y → ⊥
none_next r y e h =
    none_some (subst (λ (x : Receiver). next_run x ≡ Some y) (back e) h)
  where
    back : {x z : Receiver} → ◌≡◌ {A = Option Receiver} (Some x) (Some z) → z ≡ x
    back k = cc

pub may_be_done : MayBeDone
may_be_done = record {
  opened = refl;
  twice = λ e. some_none e;
  another = refl;
  acted_on = ((record { arriving = false; sender = new_sender 1 }, refl), tt);
  unopened = λ h. none_some h.0.1;
  heard = ((record { arriving = false; sender = new_sender 1 }, refl), inl refl);
  unheard = λ h. h.1;
  other = λ h. not_there (Ack 0 an_ack) (Ack 1 an_ack) (λ (e : 0 ≡ 1). absurd (omega arith)) h.1;
  made = (refl, (carried 1 7 None).chunk, inl refl);
  otherwise = λ h. not_there (Data 0 (record { chunk = h.1; order = Some false }))
      (a_piece (Some true)) (λ (e : 1 ≡ 2). absurd (omega arith)) h.2;
  untold = λ h. not_there (Data 0 (record { chunk = h.1; order = Some false })) (a_piece None)
      (λ (e : 1 ≡ 0). absurd (omega arith)) h.2;
  took = ((fresh false, refl), None, inl refl);
  unsent = λ h. h.2;
  empty = λ h. none_next h.0 h.1 h.2 h.3;
}

-- ---- what is stated and said

abbrev kept : Opened
kept = record {
  arriving = false;
  sender = acted (acted (acted (acted (new_sender 1) (queue 7)) (queue 8)) (Abandons 2)) Finishes;
}

abbrev took : Receiver
took = handed_next (taken (fresh false) (carried 1 7 None).chunk)

same_opened : {x y : Opened} → ◌≡◌ {A = Option (Option Opened)} (Some (Some x)) (Some (Some y)) →
    y ≡ x
same_opened e = cc

same_receiver : {x y : Receiver} →
    ◌≡◌ {A = Option (Option Receiver)} (Some (Some x)) (Some (Some y)) → y ≡ x
same_receiver e = cc

not_both : true ≡ false → ⊥
not_both e = absurd cc

some_chunk : {x y : Chunk} → ◌≡◌ {A = Option Chunk} (Some x) (Some y) → x ≡ y
some_chunk e = cc

-- of the acts at the sender only the last one gives something
only_last : (x : Carried) → (IsGiven (Some (Some kept)) (Sends 5 1000) x → ⊥) →
    IsSaid none_yet at_sender (Data 0 x) → ⊥
only_last x none (inl h) = absurd h
only_last x none (inr (inl h)) = none_some h.1.given
only_last x none (inr (inr (inl h))) = none_some h.1.given
only_last x none (inr (inr (inr (inl h)))) = none_some h.1.given
only_last x none (inr (inr (inr (inr (inl h))))) = none_some h.1.given
only_last x none (inr (inr (inr (inr (inr (inl h)))))) = none h.1
only_last x none (inr (inr (inr (inr (inr (inr h)))))) = absurd h

not_arriving : IsGiven (Some (Some kept)) (Sends 5 1000) (carried 1 7 (Some true)) → ⊥
not_arriving h =
    not_both (subst (λ (k : Opened). true ≡ k.arriving) (same_opened h.is_open) h.order)

not_abandoned : IsGiven (Some (Some kept)) (Sends 5 1000) (carried 2 8 None) → ⊥
not_abandoned h =
    let given : given_by kept.sender (Sends 5 1000) ≡ Some (carried 2 8 None).chunk =
    subst (λ (k : Opened). given_by k.sender (Sends 5 1000) ≡ Some (carried 2 8 None).chunk)
    (same_opened h.is_open) h.given in
    let seq : ◌≡◌ {A = ℕ} 1 2 =
    ap (λ (c : Chunk). c.seq) (some_chunk {x = (carried 1 7 None).chunk} given) in
    absurd (omega arith)

not_early : IsSaid none_yet at_receiver (Ack 0 (told 2048 2 [])) → ⊥
not_early (inl h) = absurd h
not_early (inr (inl h)) = absurd h
not_early (inr (inr (inl h))) = absurd h
not_early (inr (inr (inr (inl h)))) =
    let upto : ◌≡◌ {A = ℕ} 2 1 =
    subst (λ (r : Receiver). 2 ≡ (ack_by r 0).upto) (same_receiver h.1.is_made)
    (ap (λ (a : Written). a.upto) h.1.told) in
    absurd (omega arith)
not_early (inr (inr (inr (inr h)))) = absurd h

pub is_stated_and_said : IsStatedAndSaid
is_stated_and_said = record {
  sender = refl;
  receiver = refl;
  given = inr (inr
      (inr (inr (inr (inl
      (refl, record { flow = kept; is_open = refl; given = refl; order = tt }))))));
  in_order = inr (inr
      (inr (inr (inr (inl
      (refl, record { flow = kept; is_open = refl; given = refl; order = refl }))))));
  arriving = λ h. only_last (carried 1 7 (Some true)) not_arriving h;
  abandoned = λ h. only_last (carried 2 8 None) not_abandoned h;
  acked = inr (inr (inr (inl (refl, record { receiver = took; is_made = refl; told = refl }))));
  early = not_early;
}
