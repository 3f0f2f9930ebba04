-- When a datagram opens, by the looks that tell it.
use Rattle.std.proofs.Common.{ℕ, ◌≡◌, ◌==◌, ◌≤◌, nat_lt, Bool, true, false, ◌&&◌, if◌then◌else◌, List, length, take, drop, replicate, Option, Some, None, Result, Ok, Err, refl, sym, ap, ◌∙◌, arith, length-drop}
use Rattle.std.specs.Prelude.{is_none, IfOk, OnOk}
use Rattle.std.specs.Borrow.{Bor}
use Rattle.std.specs.Option.{option_copied}
use Rattle.std.specs.FinMap.{get}
use Rattle.std.proofs.lemmas.Bool.Decides.{nat_tests}
use Rattle.std.proofs.lemmas.Slice.Eq.{bytes_eq-Decides}
use Rattle.crypto_profile.specs.declared.keys.Context.{Context}
use Rattle.crypto_profile.specs.declared.keys.Context.TheVariants.{Startup, Session}
use Rattle.crypto_profile.specs.Keys.{Keys, keys_of}
use Rattle.crypto_profile.specs.Opening.{open_refusal, plain_of}
use Rattle.crypto_profile.specs.Sealing.{NumberFits, number_of}
use Rattle.crypto_profile.proofs.Opened.{opens_by_its_tag}
use Rattle.packet_scramble.specs.Datagram.{sid_of}
use Rattle.endpoint_laws.specs.Contexts.{Secrets, generation_of, OpensUnder}
use Rattle.log_packets.specs.Opening.{sid_in, is_sid, fits, part_for, is_tagged, held_then, IsOpened}

-- ---- small things

pub one_of : {A : Type 0} (a b : A) → Some a ≡ Some b → a ≡ b
one_of a b e = cc

pub none_is : {A : Type 0} (o : Option A) → is_none o ≡ true → o ≡ None
none_is None e = refl
none_is (Some x) e = absurd cc

pub is_it : {A : Type 0} (o : Option A) → o ≡ None → is_none o ≡ true
is_it None e = refl
is_it (Some x) e = absurd cc

chosen : {A : Type 0} (b : Bool) (a c : A) → (if b then Some a else None) ≡ Some c → (b ≡ true) × (a ≡ c)
chosen true a c e = (refl, one_of a c e)
chosen false a c e = absurd cc

both_are : (a b : Bool) → (a && b) ≡ true → (a ≡ true) × (b ≡ true)
both_are true b e = (refl, e)
both_are false b e = absurd cc

both : (a b : Bool) → a ≡ true → b ≡ true → (a && b) ≡ true
both true b p q = q
both false b p q = absurd cc

pub held_where : (b : Bool) (now before : List ℕ) → b ≡ true → (if b then now else before) ≡ now
held_where true now before e = refl
held_where false now before e = absurd cc

-- ---- the session ID and the number

same_sid : (short : Bool) (id sid : ℕ) → is_sid (if short then None else Some id) sid ≡ true → (short ≡ false) × (id ≡ sid)
same_sid true id sid e = absurd cc
same_sid false id sid e = (refl, (let same : (id == sid) ≡ true = e in grind (arith, nat_tests)))

is_same_sid : (short : Bool) (id sid : ℕ) → short ≡ false → id ≡ sid → is_sid (if short then None else Some id) sid ≡ true
is_same_sid true id sid e same = absurd cc
is_same_sid false id sid e same = (let is : id ≡ sid = same in grind (arith, nat_tests))

fits_is : (context : Context) (number : List ℕ) → fits context number ≡ true → NumberFits context number
fits_is (Startup generation) number e = tt
fits_is (Session generation ni nr fp_i fp_r sid_i sid_r to_responder) number e = (bytes_eq-Decides (take 8 number) (replicate 8 0)).0 e

is_fit : (context : Context) (number : List ℕ) → NumberFits context number → fits context number ≡ true
is_fit (Startup generation) number n = refl
is_fit (Session generation ni nr fp_i fp_r sid_i sid_r to_responder) number n = (bytes_eq-Decides (take 8 number) (replicate 8 0)).1 n

pub long_is : (bytes : List ℕ) → 32 ≤ length (drop 4 bytes) → nat_lt (length bytes) 36 ≡ false
long_is bytes long =
    let count : 36 ≤ length bytes = omega (arith, long, length-drop 4 bytes) in
    grind (arith, nat_tests)

-- ---- the part

-- What is so of the part that may open there.
record MayOpen (context : Context) (sid : ℕ) (bytes part : List ℕ) : Type 0 where
  is : drop 4 bytes ≡ part
  id : sid_of bytes ≡ sid
  number : NumberFits context (number_of (drop 4 bytes))

may_open : (context : Context) (sid : ℕ) (bytes part : List ℕ) → part_for context sid bytes ≡ Some part → MayOpen context sid bytes part
may_open context sid bytes part e =
    let found = chosen (is_sid (sid_in bytes) sid && fits context (number_of (drop 4 bytes))) (drop 4 bytes) part e in
    let two = both_are (is_sid (sid_in bytes) sid) (fits context (number_of (drop 4 bytes))) found.0 in
    record {
      is = found.1;
      id = (same_sid (nat_lt (length bytes) 36) (sid_of bytes) sid two.0).1;
      number = fits_is context (number_of (drop 4 bytes)) two.1;
    }

-- What opens there is such a part, with a right tag.
record DoesOpen (keys : Keys) (context : Context) (sid : ℕ) (bytes plain : List ℕ) : Type 0 where
  part : part_for context sid bytes ≡ Some (drop 4 bytes)
  tagged : is_tagged keys sid (drop 4 bytes) ≡ true
  plain_is : plain ≡ plain_of keys (drop 4 bytes)

does_open : (secrets : Secrets) (context : Context) (sid : ℕ) (bytes plain : List ℕ) (o : OpensUnder secrets context sid bytes plain) → DoesOpen (keys_of o.secret context) context sid bytes plain
does_open secrets context sid bytes plain o =
    let told = (opens_by_its_tag o.secret context sid (drop 4 bytes) plain).0 o.opens in
    record {
      part = held_some (is_sid (sid_in bytes) sid && fits context (number_of (drop 4 bytes))) (drop 4 bytes)
          (both (is_sid (sid_in bytes) sid) (fits context (number_of (drop 4 bytes)))
          (is_same_sid (nat_lt (length bytes) 36) (sid_of bytes) sid (long_is bytes o.opens.0) o.id)
          (is_fit context (number_of (drop 4 bytes)) told.1));
      tagged = is_it (open_refusal (keys_of o.secret context) sid (drop 4 bytes)) told.0;
      plain_is = told.2;
    }
  where
    held_some : (b : Bool) (a : List ℕ) → b ≡ true → (if b then Some a else None) ≡ Some a
    held_some true a e = refl
    held_some false a e = absurd cc

-- ---- the answer

pub no_some : {A : Type 0} (o : Option A) (a : A) → o ≡ None → o ≡ Some a → ⊥
no_some None a e f = let clash = f in absurd cc
no_some (Some x) a e f = absurd cc

module _ (secrets : Secrets) (context : Context) (sid : ℕ) (bytes plain : List ℕ) where
  -- where it doesn't go under the session ID, or has another number
  pub not_there : part_for context sid bytes ≡ None → IsOpened secrets context sid bytes false plain
  not_there none = record {
    yes = λ e. absurd (let clash : false ≡ true = e in cc);
    no = λ other o. absurd (no_some (part_for context sid bytes) (drop 4 bytes) none (does_open secrets context sid bytes other o).part);
  }

  -- where the secret isn't known
  pub not_known : get secrets (generation_of context) ≡ None → IsOpened secrets context sid bytes false plain
  not_known none = record {
    yes = λ e. absurd (let clash : false ≡ true = e in cc);
    no = λ other o. absurd (no_some (get secrets (generation_of context)) o.secret none o.known);
  }

  module _ (secret part before : List ℕ) (keys : Keys) (known : get secrets (generation_of context) ≡ Some secret) (under : keys ≡ keys_of secret context) (found : part_for context sid bytes ≡ Some part) where
    opening : (opens : Bool) → opens ≡ is_tagged keys sid part → plain ≡ held_then keys sid part before → IsOpened secrets context sid bytes opens plain
    opening opens is holds =
        let may = may_open context sid bytes part found in
        let tag : is_tagged keys sid part ≡ is_tagged (keys_of secret context) sid (drop 4 bytes) =
        ap (λ (k : Keys). is_tagged k sid part) under ∙ ap (is_tagged (keys_of secret context) sid) (sym may.is) in
        let its_plain : plain_of keys part ≡ plain_of (keys_of secret context) (drop 4 bytes) =
        ap (λ (k : Keys). plain_of k part) under ∙ ap (plain_of (keys_of secret context)) (sym may.is) in
        record {
          yes = λ e.
              let right : is_tagged (keys_of secret context) sid (drop 4 bytes) ≡ true = sym tag ∙ sym is ∙ e in
              record {
                secret = secret;
                known = known;
                id = may.id;
                opens = (opens_by_its_tag secret context sid (drop 4 bytes) plain).1 (
                  none_is (open_refusal (keys_of secret context) sid (drop 4 bytes)) right,
                  may.number,
                  holds ∙ held_where (is_tagged keys sid part) (plain_of keys part) before (sym is ∙ e) ∙ its_plain,
                );
              };
          no = λ other o.
              let same : o.secret ≡ secret = one_of o.secret secret (sym o.known ∙ known) in
              let does = does_open secrets context sid bytes other o in
              let right : is_tagged keys sid part ≡ true = tag ∙ ap (λ (s : List ℕ). is_tagged (keys_of s context) sid (drop 4 bytes)) (sym same) ∙ does.tagged in (
                is ∙ right,
                does.plain_is ∙ ap (λ (s : List ℕ). plain_of (keys_of s context) (drop 4 bytes)) same
                    ∙ sym (holds ∙ held_where (is_tagged keys sid part) (plain_of keys part) before right ∙ its_plain),
              );
        }

    pub opened : {E : Type 0} (r : Result Bool E) → IfOk r (λ is. is ≡ is_tagged keys sid part) → OnOk r (plain ≡ held_then keys sid part before) → IfOk r (λ opens. IsOpened secrets context sid bytes opens plain)
    opened (Ok opens) is holds = opening opens is holds
    opened (Err e) is holds = tt

-- what a call found that shows what it borrowed
pub shown : {A : Type 0} (o : Option (Bor A)) (part : Bor A) (found : Option A) → option_copied o ≡ found → o ≡ Some part → found ≡ Some part.now
shown None part found e f = absurd cc
shown {A = A} (Some x) part found e f = let same : x ≡ part = one_of x part f in sym e ∙ ap (λ (b : Bor A). Some b.now) same

pub shown_none : {A : Type 0} (o : Option (Bor A)) (found : Option A) → option_copied o ≡ found → o ≡ None → found ≡ None
shown_none None found e f = sym e
shown_none (Some x) found e f = absurd cc
