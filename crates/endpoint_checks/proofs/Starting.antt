-- What the table refuses of a Started.
use Rattle.std.proofs.Common.{ℕ, ◌==◌, ◌≢◌, List, [], ◌∷◌, drop, inl, inr, ◌⊎◌, ◌≡◌, sym, ap, refl, cond, Some, None, true, false, ◌∙◌, arith}
use Rattle.std.specs.Prelude.{Bool, filter, not}
use Rattle.std.proofs.lemmas.Bool.{eq-eqb, ne_eqb}
use Rattle.std.specs.List.{list_any}
use Rattle.std.specs.Str.{bytes_eq}
use Rattle.glare_core.specs.declared.facts.Held.{Held}
use Rattle.glare_core.specs.declared.facts.Held.TheVariants.{Opening, HalfOpen}
use Rattle.endpoint_checks.specs.Starts.{TheTableRefusesStarts}
use Rattle.endpoint_model.specs.Event.{Event}
use Rattle.endpoint_laws.specs.Contexts.{Secrets}
use Rattle.endpoint_laws.specs.Past.{IsSearch, begun, is_close}
use Rattle.endpoint_laws.specs.Lawful.{AnswersSearch}
use Rattle.endpoint_checks.proofs.Logs.{same, last_lawful}
use Rattle.endpoint_checks.proofs.Bearing.{kept_in_use}

pub taken : (b : Bool) (h : Held) → b ≡ true → cond b (Some h) None ≡ None → ⊥
taken true h e none = cc
taken false h e none = cc

-- the end of another closing frees another session ID alone
not_closed : (id over : ℕ) → id ≢ over → list_any (λ (x : ℕ). x == id) (filter (λ (x : ℕ). not (x == over)) (id ∷ [])) ≡ false → ⊥
not_closed id over differ unused =
    let e : (id == over) ≡ false = ne_eqb id over differ in
    let same_id : (id == id) ≡ true = eq-eqb id id refl in
    let clash : list_any (λ (x : ℕ). x == id) (filter (λ (x : ℕ). not (x == over)) (id ∷ [])) ≡ true = rw e (rw same_id refl) in
    let no : true ≡ false = sym clash ∙ unused in
    cc

-- by an open, where no datagram is taken
by_call : {A B : Type 0} → (A × B) ⊎ ⊥ → A × B
by_call (inl x) = x
by_call (inr none) = absurd none

-- a datagram answers no search where none began
none_sought : {A : Type 0} {B : ℕ → Type 0} (secrets : Secrets) (moment : ℕ) (e : Event) (datagram peer : List ℕ) (n near : ℕ) (ni : List ℕ) → (⊥ × A) ⊎ ((g : ℕ) × B g × AnswersSearch secrets g (begun moment e ∷ []) datagram peer n near ni) → ⊥
none_sought secrets moment e datagram peer n near ni (inl none) = none.0
none_sought secrets moment e datagram peer n near ni (inr hello) = by hello.2.stands
  where
    by : IsSearch near (record { name = drop 16 hello.2.cert; tag = hello.2.tag; ni = ni }) hello.2.at (begun moment e ∷ []) → ⊥
    by (inl own) = own.0
    by (inr old) = old.2

pub starts_refused : TheTableRefusesStarts
starts_refused secrets setup moment candidates draws peer n near ni = record {
  in_cancel = λ m h. (by_call h.0.0.1).0;
  in_close = λ id h. (by_call h.0.0.1).0;
  in_receive = λ from datagram h. none_sought secrets _ _ datagram peer n near ni h.0.0.1;
  in_tick = λ h. (by_call h.0.0.1).0;
  other_peer = λ towards differ h. differ (by_call h.0.0.1).0.0;
  other_nonce = λ differ h. differ (by_call h.0.0.1).0.1;
  itself = λ e h. h.0.0.0.other e;
  again = λ id nonce h. taken (bytes_eq peer peer) (Opening 1 id nonce) (same peer peer refl) h.1.0.0.0.free;
  with_session = λ c j e h. taken (bytes_eq j.peer peer) (HalfOpen j) (same j.peer peer e) h.1.0.0.0.free;
  first_number = λ differ h. differ h.0.0.0.next;
  second_number = λ differ c d other id nonce h. differ h.1.1.0.0.0.next;
  wide_number = λ log wide h. let small = (last_lawful secrets setup 0 [] log _ h).0.2 in omega (arith, small, wide);
  zero = λ h. (by_call h.0.0.1).1.some refl;
  of_attempt = λ c other nonce h. let clash : true ≡ false = (by_call h.1.0.0.1).1.unused in cc;
  of_born = λ c j e h. let clash = ap (λ (x : ℕ). list_any (λ id. id == 5) (x ∷ [])) (sym e) ∙ (by_call h.1.0.0.1).1.unused in cc;
  of_confirmed = λ c d j e h. let clash = ap (λ (x : ℕ). list_any (λ id. id == 5) (x ∷ [])) (sym e) ∙ (by_call h.1.1.0.0.1).1.unused in cc;
  of_opened = λ c d other nonce j h. let clash : true ≡ false = (by_call h.1.1.0.0.1).1.unused in cc;
  of_closing = λ c d j why is e h. kept_in_use (is_close why) j.near 5 _ is e (by_call h.1.1.0.0.1).1.unused;
  of_another_closed = λ c d first nonce id differ h. not_closed 5 id (λ e. differ (sym e)) (by_call h.1.1.0.0.1).1.unused;
  of_another = λ c d e first second nonce h. let clash : true ≡ false = (by_call h.1.1.1.0.0.1).1.unused in cc;
}
