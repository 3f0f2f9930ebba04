-- Contexts and numbers as keys of a set.
use Rattle.std.proofs.Common.{ℕ, List, ◌≡◌, ◌==◌, inl, inr, length, drop, refl, sym, ap, subst, Bool, true, false, cond, nat_lt, if◌then◌else◌, Option, Some, None, ◌∙◌}
use Rattle.std.specs.Bool.{beq}
use Rattle.std.specs.Str.{bytes_eq}
use Rattle.std.proofs.lemmas.Bool.{cases_Bool, eqb-true}
use Rattle.std.proofs.lemmas.Slice.Eq.{bytes_eq-Decides}
use Rattle.rtmfp_forms.proofs.Places.{first_true, second_true, both_true}
use Rattle.rtmfp_forms.specs.Address.{AddressParts}
use Rattle.crypto_profile.specs.declared.keys.Context.{Context}
use Rattle.crypto_profile.specs.declared.keys.Context.TheVariants.{Startup, Session}
use Rattle.crypto_profile.specs.Sealing.{number_of}
use Rattle.endpoint_model.specs.declared.entry.Entry.{Entry}
use Rattle.endpoint_model.specs.declared.entry.Entry.TheVariants.{Out}
use Rattle.endpoint_model.proofs.Members.{tested}
use Rattle.endpoint_laws.specs.Past.{Past, with_entry}
use Rattle.log_digest.specs.declared.numbers.Stamp.{Stamp}
use Rattle.log_digest.specs.Numbers.{stamp_of, is_same_stamp, has_stamp, number_in, AreNumbersOf, IsStamped}

beqs : (a b : Bool) → beq a b ≡ true → a ≡ b
beqs true true e = refl
beqs true false e = absurd cc
beqs false true e = absurd cc
beqs false false e = refl

bit_self : (a : Bool) → beq a a ≡ true
bit_self true = refl
bit_self false = refl

bytes : (a b : List ℕ) → bytes_eq a b ≡ true → a ≡ b
bytes a b e = (bytes_eq-Decides a b).0 e

self : (a : List ℕ) → bytes_eq a a ≡ true
self a = (bytes_eq-Decides a a).1 refl

number_self : (a : ℕ) → (a == a) ≡ true
number_self a = elim (tested a a) [ inl is ↦ is.1 | inr is ↦ absurd (is.0 refl) ]

pub same_stamp : (a b : Stamp) → is_same_stamp a b ≡ true → a ≡ b
same_stamp a b e0 =
    let e1 = second_true (bytes_eq a.number b.number) _ e0 in
    let e2 = second_true (bytes_eq a.ni b.ni) _ e1 in
    let e3 = second_true (bytes_eq a.nr b.nr) _ e2 in
    let e4 = second_true (bytes_eq a.fp_i b.fp_i) _ e3 in
    let e5 = second_true (bytes_eq a.fp_r b.fp_r) _ e4 in
    let e6 = second_true (a.generation == b.generation) _ e5 in
    let e7 = second_true (a.sid_i == b.sid_i) _ e6 in
    let e8 = second_true (a.sid_r == b.sid_r) _ e7 in
    let number = bytes a.number b.number (first_true (bytes_eq a.number b.number) _ e0) in
    let ni = bytes a.ni b.ni (first_true (bytes_eq a.ni b.ni) _ e1) in
    let nr = bytes a.nr b.nr (first_true (bytes_eq a.nr b.nr) _ e2) in
    let fp_i = bytes a.fp_i b.fp_i (first_true (bytes_eq a.fp_i b.fp_i) _ e3) in
    let fp_r = bytes a.fp_r b.fp_r (first_true (bytes_eq a.fp_r b.fp_r) _ e4) in
    let generation = eqb-true a.generation b.generation (first_true (a.generation == b.generation) _ e5) in
    let sid_i = eqb-true a.sid_i b.sid_i (first_true (a.sid_i == b.sid_i) _ e6) in
    let sid_r = eqb-true a.sid_r b.sid_r (first_true (a.sid_r == b.sid_r) _ e7) in
    let session = beqs a.session b.session (first_true (beq a.session b.session) _ e8) in
    let to_responder = beqs a.to_responder b.to_responder (second_true (beq a.session b.session) _ e8) in
    (λ i. record {
      number = number i;
      ni = ni i;
      nr = nr i;
      fp_i = fp_i i;
      fp_r = fp_r i;
      generation = generation i;
      sid_i = sid_i i;
      sid_r = sid_r i;
      session = session i;
      to_responder = to_responder i;
    })

pub stamp_self : (a : Stamp) → is_same_stamp a a ≡ true
stamp_self a =
    both_true (bytes_eq a.number a.number) _ (self a.number) (
    both_true (bytes_eq a.ni a.ni) _ (self a.ni) (
    both_true (bytes_eq a.nr a.nr) _ (self a.nr) (
    both_true (bytes_eq a.fp_i a.fp_i) _ (self a.fp_i) (
    both_true (bytes_eq a.fp_r a.fp_r) _ (self a.fp_r) (
    both_true (a.generation == a.generation) _ (number_self a.generation) (
    both_true (a.sid_i == a.sid_i) _ (number_self a.sid_i) (
    both_true (a.sid_r == a.sid_r) _ (number_self a.sid_r) (
    both_true (beq a.session a.session) (beq a.to_responder a.to_responder) (bit_self a.session) (bit_self a.to_responder)))))))))

same_of : (c d : Context) (n m : List ℕ) → stamp_of c n ≡ stamp_of d m → c ≡ d
same_of (Startup g) (Startup h) n m e = ap (λ (s : Stamp). Startup s.generation) e
same_of (Startup g) (Session h ni nr fp_i fp_r sid_i sid_r to) n m e = absurd (let clash : false ≡ true = ap (λ (s : Stamp). s.session) e in cc)
same_of (Session h ni nr fp_i fp_r sid_i sid_r to) (Startup g) n m e = absurd (let clash : true ≡ false = ap (λ (s : Stamp). s.session) e in cc)
same_of (Session g ni nr fp_i fp_r sid_i sid_r to) (Session h nj ns fq_i fq_r tid_i tid_r two) n m e =
    ap (λ (s : Stamp). Session s.generation s.ni s.nr s.fp_i s.fp_r s.sid_i s.sid_r s.to_responder) e

number_is : (c : Context) (n : List ℕ) → (stamp_of c n).number ≡ n
number_is (Startup g) n = refl
number_is (Session h ni nr fp_i fp_r sid_i sid_r to) n = refl

same_number : (c d : Context) (n m : List ℕ) → stamp_of c n ≡ stamp_of d m → n ≡ m
same_number c d n m e = sym (number_is c n) ∙ ap (λ (s : Stamp). s.number) e ∙ number_is d m

either_true : (b c : Bool) → c ≡ true → cond b true c ≡ true
either_true true c e = refl
either_true false c e = e

pub numbered : (past : Past) (old new : List Stamp) (moment : ℕ) (to : AddressParts) (datagram : List ℕ) (context : Context) → AreNumbersOf past old →
    IsStamped (stamp_of context (number_of (drop 4 datagram))) old new → AreNumbersOf (with_entry moment (Out to datagram context) past) new
numbered past old new moment to datagram context are more = record {
  there = λ c n w. more.has (stamp_of c n) ∙ elim w [
    | inl here ↦
        let same : stamp_of context (number_of (drop 4 datagram)) ≡ stamp_of c n = (λ i. stamp_of (here.0 i) (here.1 i)) in
        ap (λ (b : Bool). cond b true (has_stamp old (stamp_of c n)))
        (subst (λ (s : Stamp). is_same_stamp (stamp_of context (number_of (drop 4 datagram))) s ≡ true) same (stamp_self (stamp_of context (number_of (drop 4 datagram)))))
    | inr before ↦ either_true (is_same_stamp (stamp_of context (number_of (drop 4 datagram))) (stamp_of c n)) (has_stamp old (stamp_of c n)) (are.there c n before)
  ];
  is = λ c n e. elim (cases_Bool (is_same_stamp (stamp_of context (number_of (drop 4 datagram))) (stamp_of c n))) [
    | inl same_one ↦
        let same = same_stamp (stamp_of context (number_of (drop 4 datagram))) (stamp_of c n) same_one in
        inl (same_of context c (number_of (drop 4 datagram)) n same, same_number context c (number_of (drop 4 datagram)) n same)
    | inr not_it ↦ inr (are.is c n (ap (λ (b : Bool). cond b true (has_stamp old (stamp_of c n))) (sym not_it) ∙ sym (more.has (stamp_of c n)) ∙ e))
  ];
}

number_found : (short : Bool) (m : List ℕ) (number : List ℕ) → (if short then None else Some m) ≡ Some number → m ≡ number
number_found true m number e = absurd cc
number_found false m number e = cc

-- an entry that goes out, with the number that was read of it
pub numbered_entry : (past : Past) (old new : List Stamp) (moment : ℕ) (entry : Entry) (to : AddressParts) (datagram : List ℕ) (context : Context) (found : Option (List ℕ)) (number : List ℕ) (stamp : Stamp) →
    entry ≡ Out to datagram context → found ≡ number_in datagram → found ≡ Some number → stamp ≡ stamp_of context number → AreNumbersOf past old → IsStamped stamp old new → AreNumbersOf (with_entry moment entry past) new
numbered_entry past old new moment entry to datagram context found number stamp is read some stamped are more =
    let same : number_of (drop 4 datagram) ≡ number = number_found (nat_lt (length datagram) 36) (number_of (drop 4 datagram)) number (sym read ∙ some) in
    subst (λ (e : Entry). AreNumbersOf (with_entry moment e past) new) (sym is)
    (numbered past old new moment to datagram context are (subst (λ (s : Stamp). IsStamped s old new) (stamped ∙ ap (stamp_of context) (sym same)) more))
