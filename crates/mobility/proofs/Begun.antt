-- The pending test was begun by a datagram from another place, and an address is given for such a test alone.
use Rattle.std.proofs.Common.{◌≡◌, ℕ, Bool, true, false, not, if◌then◌else◌, List, [], ◌∷◌, Contains, Option, Some, None, refl, sym, ap, ◌∙◌, subst, arith}
use Rattle.std.specs.Str.{bytes_eq}
use Rattle.std.proofs.lemmas.List.Elements.{Contains-append_right}
use Rattle.std.proofs.lemmas.Slice.Eq.{bytes_eq-Decides}
use Rattle.rtmfp_forms.specs.Address.{AddressParts, is_same_place}
use Rattle.rtmfp_forms.proofs.Places.{first_true, second_true, both_true, place_same, same_place}
use Rattle.mobility.specs.declared.pending.Test.{Test}
use Rattle.mobility.specs.Tests.{is_young, asks, is_answered, address_for}
use Rattle.mobility.specs.Happenings.{Happening, Seen, Replied, pending_after, WasPinged, MovesOnReplyAlone, MovesOnItsReply, IsOverWithItsReply}

record WasBegun (happened : List Happening) (test : Test) : Type 0 where
  pub current : AddressParts
  pub there : Contains happened (Seen current test.address test.token test.moment)
  pub is_new : is_same_place current test.address ≡ false

begun_before : (x : Happening) (happened : List Happening) (test : Test) → WasBegun happened test → WasBegun (x ∷ happened) test
begun_before x happened test b =
    record { current = b.current; there = Contains-append_right (x ∷ []) happened (Seen b.current test.address test.token test.moment) b.there; is_new = b.is_new }

not_true : (a : Bool) → not a ≡ true → a ≡ false
not_true true e = sym e
not_true false e = refl

begun_here : (current from : AddressParts) (token : List ℕ) (moment : ℕ) (happened : List Happening) → is_same_place current from ≡ false
    → WasBegun (Seen current from token moment ∷ happened) (record { address = from; token = token; moment = moment })
begun_here current from token moment happened new = record { current = current; there = (0, omega arith, refl); is_new = new }

begun_seen : (current from : AddressParts) (token : List ℕ) (moment : ℕ) (happened : List Happening) (p : Option Test) (test : Test) (b : Bool)
    → asks p current from moment ≡ b
    → (p ≡ Some test → WasBegun happened test)
    → (if b then Some (record { address = from; token = token; moment = moment }) else p) ≡ Some test
    → WasBegun (Seen current from token moment ∷ happened) test
begun_seen current from token moment happened p test true asked before e =
    let is : ◌≡◌ {A = Test} (record { address = from; token = token; moment = moment }) test = cc in
    let new = not_true (is_same_place current from) (first_true (not (is_same_place current from)) (not (is_young p from moment)) asked) in
    subst (λ (t : Test). WasBegun (Seen current from token moment ∷ happened) t) is (begun_here current from token moment happened new)
begun_seen current from token moment happened p test false asked before e = begun_before (Seen current from token moment) happened test (before e)

begun_replied : (from : AddressParts) (bytes : List ℕ) (happened : List Happening) (p : Option Test) (test : Test) (b : Bool)
    → (p ≡ Some test → WasBegun happened test)
    → (if b then None else p) ≡ Some test
    → WasBegun (Replied from bytes ∷ happened) test
begun_replied from bytes happened p test true before e = absurd cc
begun_replied from bytes happened p test false before e = begun_before (Replied from bytes) happened test (before e)

was_begun : (happened : List Happening) (test : Test) → pending_after happened ≡ Some test → WasBegun happened test
was_begun [] test e = absurd cc
was_begun (Seen current from token moment ∷ happened) test e =
    begun_seen current from token moment happened (pending_after happened) test (asks (pending_after happened) current from moment) refl (was_begun happened test) e
was_begun (Replied from bytes ∷ happened) test e =
    begun_replied from bytes happened (pending_after happened) test (is_answered (pending_after happened) from bytes) (was_begun happened test) e

-- ---- what a reply gives

is_there : (b : Bool) (from address : AddressParts) → ◌≡◌ {A = Option AddressParts} (if b then Some from else None) (Some address) → (b ≡ true) × (address ≡ from)
is_there true from address e = (refl, cc)
is_there false from address e = absurd cc

clash : true ≡ false → ⊥
clash e = absurd cc

pinged : (happened : List Happening) (from : AddressParts) (bytes : List ℕ) (test : Test) → WasBegun happened test → is_answered (Some test) from bytes ≡ true → WasPinged happened from bytes
pinged happened from bytes test begun answered =
    let token : test.token ≡ bytes = (bytes_eq-Decides test.token bytes).0 (second_true (is_same_place test.address from) (bytes_eq test.token bytes) answered) in
    record {
      current = begun.current;
      from = test.address;
      moment = test.moment;
      happened_then = subst (λ (bs : List ℕ). Contains happened (Seen begun.current test.address bs test.moment)) token begun.there;
      is_there = place_same test.address from (first_true (is_same_place test.address from) (bytes_eq test.token bytes) answered);
      is_new = λ same. clash (sym (same_place begun.current test.address same) ∙ begun.is_new);
    }

pinged_by : (happened : List Happening) (from : AddressParts) (bytes : List ℕ) (p : Option Test) → p ≡ pending_after happened → is_answered p from bytes ≡ true → WasPinged happened from bytes
pinged_by happened from bytes None e answered = absurd cc
pinged_by happened from bytes (Some test) e answered = pinged happened from bytes test (was_begun happened test (sym e)) answered

pub moves_on_reply_alone : MovesOnReplyAlone
moves_on_reply_alone happened from address bytes e =
    let given = is_there (is_answered (pending_after happened) from bytes) from address e in
    (given.1, pinged_by happened from bytes (pending_after happened) refl given.0)

-- ---- the reply to the last ping

pub moves_on_its_reply : MovesOnItsReply
moves_on_its_reply pending current from place token moment asked same =
    let answered = both_true (is_same_place from place) (bytes_eq token token) (same_place from place same) ((bytes_eq-Decides token token).1 refl) in
    ap (λ (b : Bool). address_for (if b then Some (record { address = from; token = token; moment = moment }) else pending) place token) asked
    ∙ ap (λ (b : Bool). if b then Some place else None) answered

over_by : (b : Bool) (pending : Option Test) (from address place : AddressParts) (again : List ℕ)
    → ◌≡◌ {A = Option AddressParts} (if b then Some from else None) (Some address)
    → address_for (if b then None else pending) place again ≡ None
over_by true pending from address place again e = refl
over_by false pending from address place again e = absurd cc

pub is_over_with_its_reply : IsOverWithItsReply
is_over_with_its_reply pending from address bytes e place again = over_by (is_answered pending from bytes) pending from address place again e
