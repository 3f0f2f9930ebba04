-- Whether a number is new, by what is kept.
use Rattle.std.proofs.Common.{ℕ, List, ◌≡◌, refl, Bool, true, false, not, ◌&&◌}
use Rattle.crypto_profile.specs.declared.keys.Context.{Context}
use Rattle.crypto_profile.specs.declared.keys.Context.TheVariants.{Startup, Session}
use Rattle.endpoint_model.specs.Event.{Setup}
use Rattle.endpoint_laws.specs.Past.{Past}
use Rattle.endpoint_laws.specs.Contexts.{Secrets}
use Rattle.log_digest.specs.Numbers.{has_stamp, stamp_of}
use Rattle.log_outs.specs.declared.sender.Sender.{Sender}
use Rattle.log_outs.specs.Numbers.{IsNew, is_new}
use Rattle.log_outs.specs.Outs.{IsSenderOf}

never_used : (b : Bool) → not b ≡ true → b ≡ true → ⊥
never_used true e f = absurd cc
never_used false e f = absurd cc

never_both : (a b : Bool) → not (a && b) ≡ true → a ≡ true → b ≡ true → ⊥
never_both true b e f g = never_used b e g
never_both false b e f g = absurd cc

where_never : (b : Bool) → (b ≡ true → ⊥) → not b ≡ true
where_never true never = absurd (never refl)
where_never false never = refl

where_not_both : (a b : Bool) → (a ≡ true → b ≡ true → ⊥) → not (a && b) ≡ true
where_not_both true b never = where_never b (never refl)
where_not_both false b never = refl

module _ (secrets : Secrets) (setup : Setup) (past : Past) (s : Sender) (is : IsSenderOf secrets setup past s) where
  pub new_yes : (context : Context) (number : List ℕ) → is_new s.numbers.now s.nonces.now context number ≡ true → IsNew past context number
  new_yes (Startup generation) number e far was = never_used (has_stamp s.numbers.now (stamp_of (Startup generation) number)) e (is.numbers.there (Startup generation) number was)
  new_yes (Session generation ni nr fp_i fp_r sid_i sid_r to_responder) number e far was =
      never_both s.nonces.now.different (has_stamp s.numbers.now (stamp_of (Session generation ni nr fp_i fp_r sid_i sid_r to_responder) number)) e (is.nonces.all_different far)
      (is.numbers.there (Session generation ni nr fp_i fp_r sid_i sid_r to_responder) number was)

  pub new_no : (context : Context) (number : List ℕ) → IsNew past context number → is_new s.numbers.now s.nonces.now context number ≡ true
  new_no (Startup generation) number fresh = where_never (has_stamp s.numbers.now (stamp_of (Startup generation) number)) (λ e. fresh tt (is.numbers.is (Startup generation) number e))
  new_no (Session generation ni nr fp_i fp_r sid_i sid_r to_responder) number fresh =
      where_not_both s.nonces.now.different (has_stamp s.numbers.now (stamp_of (Session generation ni nr fp_i fp_r sid_i sid_r to_responder) number))
      (λ d e. fresh (is.nonces.different d) (is.numbers.is (Session generation ni nr fp_i fp_r sid_i sid_r to_responder) number e))
