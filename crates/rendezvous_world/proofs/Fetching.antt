-- Steps that bring a datagram.
use Rattle.std.proofs.Common.{◌≡◌, ℕ, ◌<◌, ◌≤◌, ◌^◌, ◌||◌, ◌&&◌, ◌==◌, ◌-◌, Bool, true, false, List, [], ◌∷◌, length, Option, Some, None, nat_lt, if◌then◌else◌, refl, sym, ap, ◌∙◌, arith}
use Rattle.std.specs.List.{list_any}
use Rattle.std.specs.Str.{bytes_eq}
use Rattle.std.proofs.lemmas.Bool.Decides.{nat_tests}
use Rattle.std.proofs.lemmas.Slice.Eq.{bytes_eq-Decides}
use Rattle.rtmfp_forms.specs.Address.{AddressParts}
use Rattle.crypto_profile.specs.declared.keys.Context.{Context}
use Rattle.rtmfp_base.specs.Reasons.{where_true}
use Rattle.rendezvous_world.specs.declared.step.StepFault.TheVariants.{Forged}
use Rattle.rendezvous_world.specs.declared.step.Step.TheVariants.{Forge}
use Rattle.rendezvous_world.specs.Seen.{Seen, generation_at}
use Rattle.rendezvous_world.specs.Sent.{Sent}
use Rattle.rendezvous_world.specs.Datagrams.{nth, forged}
use Rattle.crypto_profile.specs.Keys.{same_context}
use Rattle.crypto_profile.proofs.Contexts.{same_itself}
use Rattle.rendezvous_world.specs.Faults.{is_missing, is_forged_by, is_sent}
use Rattle.rendezvous_world.specs.Sound.{AreBelow}
use Rattle.rendezvous_world.specs.Entering.{IsBringing}
use Rattle.rendezvous_world.proofs.Refusing.{there_is, fault_left}

-- ---- a datagram that was looked up

or_true : (a : Bool) → (a || true) ≡ true
or_true true = refl
or_true false = refl

both_true : (a b : Bool) → a ≡ true → b ≡ true → (a && b) ≡ true
both_true true b e f = f
both_true false b e f = absurd (cc)

any_step : {A : Type 0} (p : A → Bool) (y : A) (xs : List A) (x : A) (a b : Bool) (rest : Option A) → (if a then None else if b then Some y else rest) ≡ Some x → p x ≡ true →
    (rest ≡ Some x → list_any p xs ≡ true) → list_any p (y ∷ xs) ≡ true
any_step p y xs x true b rest e h more = absurd (cc)
any_step p y xs x false true rest e h more = let same : y ≡ x = cc in ap (λ q. q || list_any p xs) (ap p same ∙ h)
any_step p y xs x false false rest e h more = ap (λ q. p y || q) (more e) ∙ or_true (p y)

pub any_nth : {A : Type 0} (p : A → Bool) (xs : List A) (n : ℕ) (x : A) → nth xs n ≡ Some x → p x ≡ true → list_any p xs ≡ true
any_nth p [] n x e h = absurd (cc)
any_nth p (y ∷ xs) n x e h = any_step p y xs x (n == 0) (n == 1) (nth xs (n - 1)) e h (λ r. any_nth p xs (n - 1) x r h)

bytes_same : (xs : List ℕ) → bytes_eq xs xs ≡ true
bytes_same xs = (bytes_eq-Decides xs xs).1 refl

sent_as : (sent : Sent) (bytes : List ℕ) (context : Context) → sent.datagram ≡ bytes → sent.context ≡ context → is_sent bytes context sent ≡ true
sent_as sent bytes context is same =
    both_true _ _ (ap (λ (b : List ℕ). bytes_eq b bytes) is ∙ bytes_same bytes) (ap (λ (c : Context). same_context c context) same ∙ same_itself context)

pub sent_known : (sent : List Sent) (which : ℕ) (one : Sent) → Some one ≡ nth sent which → list_any (is_sent one.datagram one.context) sent ≡ true
sent_known sent which one is = any_nth (is_sent one.datagram one.context) sent which one (sym is) (sent_as one one.datagram one.context refl refl)

pub few_test : (n : ℕ) → n ≤ 1164 → nat_lt 1164 n ≡ false
few_test n h = grind (arith, nat_tests)

module _ (w : Seen) (number end : ℕ) (from : AddressParts) (bytes : List ℕ) (above : AreBelow w.lines number) (fits : number < 2 ^ 32) (there : is_missing w end ≡ false) (small : length bytes ≤ 2048) where
  pub bringing_forge : (plain : List ℕ) → nat_lt 1164 (length plain) ≡ false → forged (generation_at w.ends end) plain ≡ bytes → IsBringing w number end (Forge end from plain) bytes
  bringing_forge plain few is = record {
    above = above;
    fits = fits;
    there = there_is w end there;
    calls = tt;
    called = refl;
    peer = refl;
    sized = tt;
    datagram = ap (λ (b : List ℕ). Some b) is;
    short = small;
    forged = ap (λ (b : List ℕ). is_forged_by w end (Some b)) is;
    fault = fault_left w number (Forge end from plain) there refl few ∙ ap (λ (b : List ℕ). where_true (is_forged_by w end (Some b)) Forged) is;
  }
