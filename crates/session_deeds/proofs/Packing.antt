-- The flow data that goes into a packet is given by deeds.
use Prim.Native.Nat.{zero, suc}
use Rattle.std.proofs.Common.{◌≡◌, ℕ, ◌+◌, ◌-◌, ◌^◌, ◌<◌, ◌≤◌, ◌==◌, ◌&&◌, Bool, true, false, cond}
use Rattle.std.proofs.Common.{not, nat_lt, List, [], ◌∷◌, ◌++◌, Option, Some, None, Ok, option_map}
use Rattle.std.proofs.Common.{IfSome, length, map, refl, sym, ap, ◌∙◌, subst, arith, append_assoc}
use Rattle.std.proofs.Common.{append-nil, length-append, inl, ⊎_elim}
use Rattle.std.specs.Prelude.{slice_get, slice_set, MatchOption}
use Rattle.std.specs.List.{AllByRecursion, flat_map}
use Rattle.std.proofs.lemmas.Bool.{eqb-true, ltb-false}
use Rattle.std.proofs.lemmas.Option.{slice_get_within}
use Rattle.rtmfp_vlu.specs.Vlu.{vlu}
use Rattle.rtmfp_forms.specs.Options.{OptionParts, OptionsSpell, options_bytes}
use Rattle.rtmfp_forms.specs.Outgoing.{packet_limit}
use Rattle.rtmfp_data_chunks.specs.declared.user_data.Numbers.{Numbers}
use Rattle.rtmfp_data_chunks.specs.Chunk.{UserParts, DataChunk, Data, Next}
use Rattle.rtmfp_data_chunks.specs.Fields.{OptionsStand}
use Rattle.rtmfp_data_chunks.specs.FlowOptions.{metadata_in}
use Rattle.rtmfp_data_chunks.specs.Reader.{data_reading}
use Rattle.rtmfp_data_chunks.specs.Runs.{Chunk}
use Rattle.rtmfp_data_chunks.specs.Spelling.{IsBehind, HasNext, Follows, kind_of, before_next}
use Rattle.rtmfp_data_chunks.specs.Writing.{payload_bytes, list_bytes, body_bytes, data_bytes}
use Rattle.rtmfp_data_chunks.proofs.ReadingLaws.{data_reading_is}
use Rattle.rtmfp_data_chunks.proofs.Respelling.{data_spelled, next_spelled}
use Rattle.flow_send.specs.declared.outcome.NoChunk.{NoChunk}
use Rattle.flow_send.specs.declared.outcome.NoChunk.TheVariants as no_chunk
use Rattle.flow_send.specs.Rows.{Row, is_lost, is_unsent}
use Rattle.flow_send.specs.Sender.{Sender, next_of}
use Rattle.flow_send.specs.Choice.{Choice, Nothing, Send, Notify, choice, chunk_for, first_in}
use Rattle.flow_send.specs.Choice.{sent_after}
use Rattle.flow_send.specs.Flow.{Flow, with_sender, is_told, options_length, data_length, user_data}
use Rattle.flow_send.specs.Flow.{chunk_options, if_room, chunk_refusal_of}
use Rattle.flow_send.proofs.Ends.{next_small}
use Rattle.flow_send.proofs.Steadies.{chosen as chosen_row, found_low, steady_sent}
use Rattle.flow_exchange.specs.Sending.{Sends, Sending, acts, sends}
use Rattle.flow_history.specs.Flow.{Opened, alone}
use Rattle.flow_history.specs.Run.{queued_act, abandoned_act}
use Rattle.flow_history.specs.Said.{TellsOrder}
use Rattle.flow_history.specs.Deeds.{Piece, Data as DataOf}
use Rattle.flow_history.specs.Keeping.{Flows}
use Rattle.session_flows.specs.declared.pace.Pace.{Pace}
use Rattle.session_flows.specs.declared.pace.Before.{Before}
use Rattle.session_flows.specs.Told.{options_of, begins_with_a}
use Rattle.session_flows.specs.Keeping.{FlowsState, sending_at, with_sending, Stated, Abandoned}
use Rattle.session_flows.specs.Causes.{order_of}
use Rattle.session_flows.specs.Packing.{chosen, first_to_send, session_flight, is_first, follows}
use Rattle.session_flows.specs.Packing.{numbers_in, as_chunk, marked, packed, packed_by, refused_of}
use Rattle.session_flows.specs.Packing.{Packing, packing, packing_with, put_back, packed_of}
use Rattle.session_flows.specs.Packing.{packed_once, packs_on, packs, filled}
use Rattle.session_flows.specs.Laws.{IsNextOf, NoneMaySend}
use Rattle.session_flows.proofs.Next.{the_next_sends}
use Rattle.session_flows.proofs.Within.{in_place}
use Rattle.session_deeds.specs.Deeds.{told, Deed, ActsOn, MayAll, did_all, told_all, as_queued}
use Rattle.session_deeds.specs.Shows.{opened_of, IsWritable, Shows}
use Rattle.session_deeds.specs.Goes.{Says, AllSaid}
use Rattle.session_deeds.specs.Pieces.{carried_of, pieces_in}
use Rattle.session_deeds.specs.Laws.{FillingGoes}
use Rattle.session_deeds.proofs.Chains.{did_joined, told_joined, may_joined, all_first, all_later}
use Rattle.session_deeds.proofs.Chains.{all_joined}
use Rattle.session_deeds.proofs.Lists.{each_at}
use Rattle.session_deeds.proofs.Changing.{acted_shows}
use Rattle.session_deeds.proofs.Reading.{AreRead, cursor_after, read_joined, cursor_joined, IsShort}
use Rattle.session_deeds.proofs.Reading.{each_joined, bytes_joined, pieces_joined, put_behind}

-- ---- a chunk that is chosen

-- its number is one of the flow's, and its forward number stands behind it
record IsProper (s : Sender) (c : Chunk) : Type 0 where
  below : c.seq < next_of s
  behind : IsBehind c.forward c.seq c.abandon

some_chunk : {x y : Chunk} → ◌≡◌ {A = Option Chunk} (Some x) (Some y) → x ≡ y
some_chunk e = cc

proper_row : (s : Sender) (n : ℕ) (r : Row) →
    (s.forward + 1 ≤ n) × (n < s.forward + 1 + length s.rows) → (c : Chunk) →
    chunk_for s (Send n r) ≡ Some c → IsProper s c
proper_row s n r h c e =
    subst (IsProper s) (some_chunk e)
    (record {
      below = omega (arith, h.1);
      behind =
          (omega (arith, h.0), λ same. absurd (omega (arith, h.0)));
    })

found_row : (s : Sender) (n : ℕ) (r : Row) →
    (first_in is_lost (s.forward + 1) s.rows ≡ Send n r) × Unit {0} →
    (s.forward + 1 ≤ n) × (n < s.forward + 1 + length s.rows)
found_row s n r e = let k = found_low is_lost (s.forward + 1) n r s.rows e.0 in (k.0, k.1)

unsent_row : (s : Sender) (n : ℕ) (r : Row) → first_in is_unsent (s.forward + 1) s.rows ≡ Send n r →
    (s.forward + 1 ≤ n) × (n < s.forward + 1 + length s.rows)
unsent_row s n r e = let k = found_low is_unsent (s.forward + 1) n r s.rows e in (k.0, k.1)

proper : (s : Sender) (moment resend : ℕ) (o : Choice) (c : Chunk) → choice moment resend s ≡ o →
    chunk_for s o ≡ Some c → IsProper s c
proper s moment resend Nothing c is e = absurd cc
proper s moment resend (Send n r) c is e =
    proper_row s n r
    (⊎_elim (λ h. found_row s n r (h, tt)) (unsent_row s n r)
    (chosen_row s moment resend n r is)) c e
proper s moment resend Notify c is e =
    subst (IsProper s) (some_chunk e)
    (record { below = omega arith; behind = (omega arith, λ same. refl) })

-- ---- how long it is

options_same : (options : Option (List OptionParts)) →
    options_length options ≡ length (list_bytes options)
options_same None = omega arith
options_same (Some options) = omega arith

body_length : (flow : ℕ) (options : Option (List OptionParts)) (c : Chunk) →
    length (body_bytes (user_data flow options c)) ≡ options_length options + length c.bytes
body_length flow options c =
    omega (arith, length-append (list_bytes options) c.bytes, options_same options)

data_short : (flow : ℕ) (options : Option (List OptionParts)) (c : Chunk) →
    length (payload_bytes (Data (user_data flow options c))) ≤ data_length flow options c
data_short flow options c =
    let body : List ℕ = body_bytes (user_data flow options c) in
    omega (
      arith,
      length-append (vlu flow) (vlu c.seq ++ (vlu (c.seq - c.forward) ++ body)),
      length-append (vlu c.seq) (vlu (c.seq - c.forward) ++ body),
      length-append (vlu (c.seq - c.forward)) body,
      body_length flow options c,
    )

next_short : (flow : ℕ) (options : Option (List OptionParts)) (c : Chunk) →
    length (payload_bytes (Next (user_data flow options c))) ≤ data_length flow options c
next_short flow options c = omega (arith, body_length flow options c)

either_short : (b : Bool) (flow : ℕ) (options : Option (List OptionParts)) (c : Chunk) →
    data_length flow options c ≤ packet_limit →
    IsShort (cond b (Next (user_data flow options c)) (Data (user_data flow options c)))
either_short true flow options c fits = omega (arith, next_short flow options c, fits)
either_short false flow options c fits = omega (arith, data_short flow options c, fits)

-- a chunk that isn't refused is no longer than a packet may be
room_of : (room size : ℕ) (b : Bool) → nat_lt room size ≡ b →
    cond b (Some no_chunk.Room) None ≡ None → size ≤ room
room_of room size true e h = absurd cc
room_of room size false e h = ltb-false room size e

fits_in : (f : Flow) (first : Bool) (room flight window : ℕ) (o : Choice) (c : Chunk) (b : Bool) →
    cond b (Some no_chunk.Window)
    (if_room room (data_length f.id (chunk_options f first) c)) ≡ None →
    data_length f.id (chunk_options f first) c ≤ room
fits_in f first room flight window o c true h = absurd cc
fits_in f first room flight window o c false h =
    room_of room (data_length f.id (chunk_options f first) c)
    (nat_lt room (data_length f.id (chunk_options f first) c)) refl h

-- ---- how it is read

abbrev cursor_of : Option Before → Option Numbers
cursor_of None = None
cursor_of (Some b) = Some (record { flow = b.flow; seq = b.seq; forward = b.forward })

-- what a user data chunk has that can be read
record CanBeRead (user : UserParts) : Type 0 where
  flow : user.flow < 2 ^ 64
  seq : user.seq < 2 ^ 64
  behind : IsBehind user.forward user.seq user.abandon
  options : OptionsStand user.options (list_bytes user.options)

both_true : (a b : Bool) → (a && b) ≡ true → (a ≡ true) × (b ≡ true)
both_true true true e = (refl, refl)
both_true true false e = absurd cc
both_true false b e = absurd cc

follows_is : (before : Option Before) (user : UserParts) → user.seq < 2 ^ 64 →
    follows before (numbers_in user) ≡ true →
    HasNext (cursor_of before) × Follows user (cursor_of before)
follows_is None user few e = absurd cc
follows_is (Some b) user few e =
    let k = both_true (user.flow == b.flow)
    ((user.seq == b.seq + 1) && (user.forward == b.forward)) e in
    let m = both_true (user.seq == b.seq + 1) (user.forward == b.forward) k.1 in
    let next : user.seq ≡ b.seq + 1 = eqb-true user.seq (b.seq + 1) m.0 in
    (omega (arith, few), (eqb-true user.flow b.flow k.0, next, eqb-true user.forward b.forward m.1))

read_by : (before : Option Before) (user : UserParts) (b : Bool) → CanBeRead user →
    follows before (numbers_in user) ≡ b →
    data_reading (cursor_of before) (kind_of (cond b (Next user) (Data user)))
    (payload_bytes (cond b (Next user) (Data user))) ≡ Ok (cond b (Next user) (Data user))
read_by before user true h e =
    data_reading_is (cursor_of before) 17 (payload_bytes (Next user)) (Ok (Next user))
    (λ same. absurd (omega arith))
    (refl, next_spelled user (cursor_of before) (follows_is before user h.seq e) h.options)
read_by before user false h e =
    data_reading_is (cursor_of before) 16 (payload_bytes (Data user)) (Ok (Data user))
    (λ same. absurd (omega arith)) (refl, data_spelled user h.flow h.seq h.behind h.options)

ends_by : (user : UserParts) (b : Bool) →
    before_next (Ok (cond b (Next user) (Data user))) ≡ cursor_of (Some (numbers_in user))
ends_by user true = refl
ends_by user false = refl

piece_by : (user : UserParts) (b : Bool) →
    pieces_in (cond b (Next user) (Data user)) ≡ DataOf user.flow (carried_of user) ∷ []
piece_by user true = refl
piece_by user false = refl

-- its options
options_stand : (f : Flow) (b : Bool) → OptionsSpell f.options (options_bytes f.options) →
    OptionsStand (cond b (Some f.options) None) (list_bytes (cond b (Some f.options) None))
options_stand f true h = h
options_stand f false h = refl

order_tells : (m : Option (List ℕ)) → TellsOrder (option_map begins_with_a m) (order_of m)
order_tells None = tt
order_tells (Some metadata) = refl

options_tell : (f : Flow) (b : Bool) →
    TellsOrder (option_map begins_with_a (metadata_in (options_of (cond b (Some f.options) None))))
    (order_of (metadata_in f.options))
options_tell f true = order_tells (metadata_in f.options)
options_tell f false = tt

-- ---- a packet

-- From one packet to another some chunks went, which deeds gave.
record IsPacked (came : List Piece) (fl : Flows) (s : FlowsState) (p q : Packing) : Type 0 where
  deeds : List Deed
  chunks : List DataChunk
  may : MayAll came fl deeds
  shows : Shows (with_sending s q.sending) (did_all fl deeds)
  silent : told_all fl deeds ≡ []
  said : AllSaid fl deeds (flat_map pieces_in chunks)
  is : q.packet ≡ p.packet ++ flat_map data_bytes chunks
  short : AllByRecursion IsShort chunks
  read : AreRead (cursor_of p.marks.before) chunks
  ends : cursor_after (cursor_of p.marks.before) chunks ≡ cursor_of q.marks.before

none_packed : (came : List Piece) (fl : Flows) (s : FlowsState) (p : Packing) →
    Shows (with_sending s p.sending) fl → IsPacked came fl s p p
none_packed came fl s p h = record {
  deeds = [];
  chunks = [];
  may = tt;
  shows = h;
  silent = refl;
  said = tt;
  is = sym (append-nil p.packet);
  short = tt;
  read = tt;
  ends = refl;
}

then_packed : (came : List Piece) (fl : Flows) (s : FlowsState) (p q r : Packing) →
    (a : IsPacked came fl s p q) → IsPacked came (did_all fl a.deeds) s q r → IsPacked came fl s p r
then_packed came fl s p q r a b = record {
  deeds = a.deeds ++ b.deeds;
  chunks = a.chunks ++ b.chunks;
  may = may_joined came a.deeds b.deeds fl a.may b.may;
  shows = subst (λ (x : Flows). Shows (with_sending s r.sending) x)
      (sym (did_joined a.deeds b.deeds fl)) b.shows;
  silent = told_joined a.deeds b.deeds fl
      ∙ ap (λ (l : List Stated). l ++ told_all (did_all fl a.deeds) b.deeds) a.silent ∙ b.silent;
  said = subst (λ (l : List Piece). AllSaid fl (a.deeds ++ b.deeds) l)
      (sym (pieces_joined a.chunks b.chunks))
      (all_joined fl (a.deeds ++ b.deeds) (flat_map pieces_in a.chunks)
      (flat_map pieces_in b.chunks)
      (all_first a.deeds b.deeds fl (flat_map pieces_in a.chunks) a.said)
      (all_later a.deeds b.deeds fl (flat_map pieces_in b.chunks) b.said));
  is = b.is ∙ ap (λ (l : List ℕ). l ++ flat_map data_bytes b.chunks) a.is
      ∙ append_assoc p.packet (flat_map data_bytes a.chunks) (flat_map data_bytes b.chunks)
      ∙ ap (λ (l : List ℕ). p.packet ++ l) (sym (bytes_joined a.chunks b.chunks));
  short = each_joined IsShort a.chunks b.chunks a.short b.short;
  read = read_joined (cursor_of p.marks.before) a.chunks b.chunks a.read
      (subst (λ (o : Option Numbers). AreRead o b.chunks) (sym a.ends) b.read);
  ends = cursor_joined (cursor_of p.marks.before) a.chunks b.chunks
      ∙ ap (λ (o : Option Numbers). cursor_after o b.chunks) a.ends ∙ b.ends;
}

-- the chunk of a flow that sends
one_packed : (came : List Piece) (fl : Flows) (s : FlowsState) (p : Packing) (pace : Pace)
    (f : Flow) (k : ℕ) (c : Chunk) → Shows (with_sending s p.sending) fl → f.id ≡ k →
    slice_get p.sending k ≡ Some f →
    chunk_for f.sender (chosen pace f) ≡ Some c →
    data_length f.id (chunk_options f (is_first p.marks f.id)) c ≤ packet_limit →
    IsPacked came fl s p
    (packing_with (slice_set p.sending f.id
    (with_sender f (sent_after pace.moment (chosen pace f) f.sender)))
    (p.packet ++ data_bytes
    (as_chunk p.marks.before (user_data f.id (chunk_options f (is_first p.marks f.id)) c)))
    (marked p.marks (user_data f.id (chunk_options f (is_first p.marks f.id)) c)))
one_packed came fl s p pace f k c h id there is fits =
    let u : FlowsState = with_sending s p.sending in
    let open_here : sending_at u f.id ≡ Some f = ap (λ (n : ℕ). slice_get p.sending n) id ∙ there in
    let writable : IsWritable f = each_at IsWritable p.sending f.id f open_here h.writable in
    let kept : fl.opened f.id ≡ Some (opened_of f) = h.opened f.id
    ∙ ap (λ (o : Option Flow). option_map opened_of o) open_here in
    let act = Sends pace.moment pace.resend_after in
    let left : Sender = sent_after pace.moment (chosen pace f) f.sender in
    let acted_is : acts (alone f.sender) act ≡ sends (alone f.sender) pace.moment (chosen pace f)
    (Some c) = ap (λ (o : Option Chunk). sends (alone f.sender) pace.moment (chosen pace f) o)
    is in
    let options : Option (List OptionParts) = chunk_options f (is_first p.marks f.id) in
    let tells : Bool = is_first p.marks f.id && not (is_told f.sender.told) in
    let user : UserParts = user_data f.id options c in
    let follow : Bool = follows p.marks.before (numbers_in user) in
    let good : IsProper f.sender c =
    proper f.sender pace.moment pace.resend_after (chosen pace f) c refl is in
    let within : f.id < length p.sending = slice_get_within p.sending f.id f open_here in
    let readable : CanBeRead user = record {
      flow = omega (arith, within, h.sound.few);
      seq = omega (arith, good.below, next_small f.sender writable.steady);
      behind = good.behind;
      options = options_stand f tells writable.options;
    } in
    let says : Says fl (ActsOn f.id act) (DataOf f.id (carried_of user)) = (
      refl,
      record {
        flow = opened_of f;
        is_open = ap (λ (o : Option Opened). Some o) kept;
        given =
            is;
        order = options_tell f tells;
      },
    ) in
    record {
      deeds = ActsOn f.id act ∷ [];
      chunks = as_chunk p.marks.before user ∷ [];
      may = (((opened_of f, kept), tt), tt);
      shows = acted_shows u fl f.id act f left h open_here (ap (λ (w : Sending). w.sender) acted_is)
          (steady_sent f.sender pace.moment pace.resend_after (chosen pace f) refl writable.steady);
      silent = append-nil (told fl (ActsOn f.id act))
          ∙ ap (λ (o : Option Opened). map (as_queued f.id) (queued_act (Some o) act) ++ map
          (Abandoned f.id) (abandoned_act (Some o) act)) kept
          ∙ ap (λ (w : Sending). map (as_queued f.id) w.world.queued ++ map
          (Abandoned f.id) w.world.abandoned) acted_is;
      said = subst (λ (l : List Piece). AllSaid fl (ActsOn f.id act ∷ []) l)
          (sym (append-nil (pieces_in (as_chunk p.marks.before user)) ∙ piece_by user follow))
          (inl says, tt);
      is = ap (λ (l : List ℕ). p.packet ++ l)
          (sym (append-nil (data_bytes (as_chunk p.marks.before user))));
      short = (either_short follow f.id options c fits, tt);
      read = (read_by p.marks.before user follow readable refl, tt);
      ends = ends_by user follow;
    }

by_packed : (came : List Piece) (fl : Flows) (s : FlowsState) (p : Packing) (pace : Pace)
    (flight : ℕ) (f : Flow) (k : ℕ) (refused : Option NoChunk) (o : Option Chunk) →
    Shows (with_sending s p.sending) fl → f.id ≡ k →
    slice_get p.sending k ≡ Some f → chunk_for f.sender (chosen pace f) ≡ o →
    chunk_refusal_of f (is_first p.marks f.id) (packet_limit - length p.packet) flight pace.window
    (chosen pace f) o ≡ refused →
    IfSome (put_back p.sending (packed_by pace (packed f p.packet p.marks) refused o))
    (λ (q : Packing). IsPacked came fl s p q)
by_packed came fl s p pace flight f k (Some x) o h id there is e = tt
by_packed came fl s p pace flight f k None None h id there is e = tt
by_packed came fl s p pace flight f k None (Some c) h id there is e =
    let fits : data_length f.id
    (chunk_options f (is_first p.marks f.id)) c ≤ packet_limit - length p.packet =
    fits_in f (is_first p.marks f.id) (packet_limit - length p.packet) flight pace.window
    (chosen pace f) c _ e in
    one_packed came fl s p pace f k c h id there is (omega (arith, fits))

of_packed : (came : List Piece) (fl : Flows) (s : FlowsState) (p : Packing) (pace : Pace)
    (o : Option Flow) → Shows (with_sending s p.sending) fl → first_to_send pace p.sending ≡ o →
    IfSome (packed_of pace p o) (λ (q : Packing). IsPacked came fl s p q)
of_packed came fl s p pace None h e = tt
of_packed came fl s p pace (Some f) h e =
    let next : IsNextOf pace p.sending f =
    subst (λ (o : Option Flow). MatchOption o
    (NoneMaySend pace p.sending)
    (λ (g : Flow). IsNextOf pace p.sending g)) e
    (the_next_sends pace p.sending h.sound.numbered) in
    let place = in_place 0 p.sending f h.sound.numbered next.is_in in
    let at : f.id ≡ 0 + place.0 = place.1 in
    by_packed came fl s p pace (session_flight p.sending) f place.0
    (refused_of pace (session_flight p.sending) (packed f p.packet p.marks))
    (chunk_for f.sender (chosen pace f)) h (omega arith) place.2 refl refl

on_packed : (came : List Piece) (fl : Flows) (s : FlowsState) (later : Packing → Packing)
    (p : Packing) (o : Option Packing) → Shows (with_sending s p.sending) fl →
    IfSome o (λ (q : Packing). IsPacked came fl s p q) →
    ((gl : Flows) (q : Packing) → Shows (with_sending s q.sending) gl →
    IsPacked came gl s q (later q)) → IsPacked came fl s p (packs_on later p o)
on_packed came fl s later p None h one more = none_packed came fl s p h
on_packed came fl s later p (Some q) h one more =
    then_packed came fl s p q (later q) one (more (did_all fl one.deeds) q one.shows)

all_packed : (came : List Piece) (s : FlowsState) (pace : Pace) (count : ℕ) (fl : Flows)
    (p : Packing) → Shows (with_sending s p.sending) fl → IsPacked came fl s p (packs pace count p)
unfolding packs
all_packed came s pace zero fl p h = none_packed came fl s p h
all_packed came s pace (suc count) fl p h =
    on_packed came fl s (packs pace count) p (packed_once pace p) h
    (of_packed came fl s p pace (first_to_send pace p.sending) h refl)
    (all_packed came s pace count)

pub filling_goes : FillingGoes
filling_goes came pace s front fl h =
    let k : IsPacked came fl s (packing s.sending front) (filled pace s.sending front) =
    all_packed came s pace 1165 fl (packing s.sending front) h in
    record {
      deeds = k.deeds;
      pieces = flat_map pieces_in k.chunks;
      done = record { may = k.may; shows = k.shows; states = k.silent };
      said = k.said;
      put = put_behind front (filled pace s.sending front).packet k.chunks k.is k.short k.read;
    }
