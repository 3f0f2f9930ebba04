use Rattle.std.proofs.Common.{◌≡◌, ◌<◌, List, ℕ, length, get_or, slice_get, ap, sym, ◌∙◌, subst, Option, Some, refl, arith}
use Rattle.std.proofs.lemmas.Option.{slice_get_read}
use Rattle.crypto_profile.specs.declared.keys.Context.{Context}
use Rattle.rtmfp_report.specs.declared.group_keys.KeptKey.{KeptKey}
use Rattle.std.specs.Prelude.{IfSome}
use Rattle.std.specs.FinMap.{get}
use Rattle.endpoint_laws.specs.Contexts.{Secrets, generation_of}
use Rattle.rtmfp_report.specs.KeptKeys.{IsUnder, secrets_in}
use Rattle.crypto_profile.specs.Keys.{keys_of}
use Rattle.crypto_profile.proofs.Contexts.{same_context_is}
use Rattle.rtmfp_report.proofs.group_keys.GroupKeys.kept_key.Goals as goal

pub returns-then-is_same : goal.returns-then-is_same
returns-then-is_same c =
    let i = c.self.inside in
    let slot = c.in_ok-slot.slot in
    let found = c.in-Some.ensures.lookup in
    let inside : slot < length i.kept.items = omega (arith, ap length c.deref.ensures.value, found.3.0) in
    let there : slice_get i.kept.items slot ≡ Some c.in-Some.row.now =
    slice_get_read i.kept.items (length i.kept.items) slot c.in-Some.row.now refl inside
    (found.1 ∙ ap (λ (rows : List (Option KeptKey)). get_or rows slot c.in-Some.row.now) c.deref.ensures.value) in
    let secrets : Secrets = secrets_in i.secrets in
    let kept : KeptKey = c.in-Some-row.kept in
    let is : IsUnder secrets (Some kept) = subst (IsUnder secrets) c.in-Some-row.is (c.self.invariant.kept_keys slot c.in-Some.row.now there) in
    subst (λ (context : Context). IfSome (get c.args.self.now (generation_of context)) (λ secret. kept.key ≡ (keys_of secret context).enc))
    (same_context_is kept.context c.args.context.now (sym c.is_same.ensures ∙ c.if-is_same.true))
    (subst (λ (s : Secrets). IfSome (get s (generation_of kept.context)) (λ secret. kept.key ≡ (keys_of secret kept.context).enc)) c.self.view_is is)
