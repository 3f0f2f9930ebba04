-- The tag and the keying of what began last under a session ID, after one more thing was done.
use Rattle.std.proofs.Common.{ℕ, List, [], ◌∷◌, ◌≡◌, ◌==◌, ◌⊎◌, inl, inr, refl, sym, ap, subst, Bool, true, false, if◌then◌else◌, Option, Some, None, ◌∙◌}
use Rattle.std.specs.FinMap.{get, insert}
use Rattle.rtmfp_base.proofs.Maps.{get_inserted, get_beside}
use Rattle.crypto_profile.specs.declared.keys.Context.TheVariants.{Startup}
use Rattle.glare_core.specs.Steps.{Among}
use Rattle.endpoint_model.specs.Event.{OpenCall, SeekCall}
use Rattle.endpoint_model.specs.Views.{Sending}
use Rattle.endpoint_model.proofs.Members.{tested}
use Rattle.endpoint_laws.specs.Past.{Past, Stamped, GoesOn, tag_if, opened_tag, sought_tag, out_done, fact_done, started_id, sought_done, sought_id}
use Rattle.endpoint_laws.specs.Contexts.{Secrets, IsKeying, KeyingWent}
use Rattle.log_contexts.specs.declared.threads.Thread.{Thread}
use Rattle.log_contexts.specs.Kept.{ThreadTable, keying_at, keying_in, tag_at, tag_in}
use Rattle.log_contexts.specs.Changes.{drawn_or, keyed, started, with_keying, with_keyings, with_start}
use Rattle.log_contexts.specs.Contexts.{AreKeyingsOf}

-- ---- tables

module _ (threads : ThreadTable) (near : ℕ) (v : Thread) where
  tag_here : tag_at near (insert threads near v) ≡ v.tag
  tag_here = ap tag_in (get_inserted threads near v)

  keying_here : keying_at near (insert threads near v) ≡ v.keying
  keying_here = ap keying_in (get_inserted threads near v)

  tag_beside : (q : ℕ) → (q ≡ near → ⊥) → tag_at q (insert threads near v) ≡ tag_at q threads
  tag_beside q other = ap tag_in (get_beside threads near v q other)

  keying_beside : (q : ℕ) → (q ≡ near → ⊥) → keying_at q (insert threads near v) ≡ keying_at q threads
  keying_beside q other = ap keying_in (get_beside threads near v q other)

-- ---- tags

-- what an open or a seek draws, or else the tag before
open_draws : (o : Option OpenCall) (before : Option (List ℕ)) → drawn_or (opened_tag o None) before ≡ opened_tag o before
open_draws None before = refl
open_draws (Some o) before = refl

seek_draws : (o : Option SeekCall) (before : Option (List ℕ)) → drawn_or (sought_tag o None) before ≡ sought_tag o before
seek_draws None before = refl
seek_draws (Some seek) before = refl

if_is : (b : Bool) (new before : Option (List ℕ)) → b ≡ true → (if b then new else before) ≡ new
if_is true new before e = refl
if_is false new before e = absurd cc

if_not : (b : Bool) (new before : Option (List ℕ)) → b ≡ false → (if b then new else before) ≡ before
if_not true new before e = absurd cc
if_not false new before e = refl

-- something begins under a session ID
pub tag_started : (threads : ThreadTable) (near : ℕ) (drawn new before : Option (List ℕ)) (q : ℕ) → before ≡ tag_at q threads → drawn_or drawn before ≡ new → tag_if q (Some near) new before ≡ tag_at q (with_start near drawn threads)
tag_started threads near drawn new before q was draws = elim (tested near q) [
  | inl is ↦
      if_is (near == q) new before is.1 ∙ sym draws ∙ ap (drawn_or drawn) (was ∙ ap (λ (n : ℕ). tag_at n threads) (sym is.0))
      ∙ sym (ap (λ (n : ℕ). tag_at n (with_start near drawn threads)) (sym is.0) ∙ tag_here threads near (started drawn (get threads near)))
  | inr is ↦ if_not (near == q) new before is.1 ∙ was ∙ sym (tag_beside threads near (started drawn (get threads near)) q (λ e. is.0 (sym e)))
]

pub tag_opened : (threads : ThreadTable) (near : ℕ) (o : Option OpenCall) (drawn before : Option (List ℕ)) (q : ℕ) → drawn ≡ opened_tag o None → before ≡ tag_at q threads →
    tag_if q (Some near) (opened_tag o before) before ≡ tag_at q (with_start near drawn threads)
tag_opened threads near o drawn before q draws was =
    tag_started threads near drawn (opened_tag o before) before q was (ap (λ (d : Option (List ℕ)). drawn_or d before) draws ∙ open_draws o before)

pub tag_sought : (threads : ThreadTable) (near : ℕ) (o : Option SeekCall) (drawn before : Option (List ℕ)) (q : ℕ) → drawn ≡ sought_tag o None → before ≡ tag_at q threads →
    tag_if q (Some near) (sought_tag o before) before ≡ tag_at q (with_start near drawn threads)
tag_sought threads near o drawn before q draws was =
    tag_started threads near drawn (sought_tag o before) before q was (ap (λ (d : Option (List ℕ)). drawn_or d before) draws ∙ seek_draws o before)

-- keyings leave the tags
pub tag_keyed : (generation : ℕ) (nears : List ℕ) (threads : ThreadTable) (q : ℕ) → tag_at q (with_keyings generation nears threads) ≡ tag_at q threads
tag_keyed generation [] threads q = refl
tag_keyed generation (near ∷ more) threads q = tag_keyed generation more (with_keying generation near threads) q ∙ elim (tested near q) [
  | inl is ↦
      ap (λ (n : ℕ). tag_at n (with_keying generation near threads)) (sym is.0) ∙ tag_here threads near (keyed generation (get threads near))
      ∙ ap (λ (n : ℕ). tag_at n threads) is.0
  | inr is ↦ tag_beside threads near (keyed generation (get threads near)) q (λ e. is.0 (sym e))
]

-- ---- keyings

-- The generations are kept in which keyings went out.
pub record AreKept (secrets : Secrets) (past : Past) (threads : ThreadTable) : Type 0 where
  pub went : (near generation : ℕ) → KeyingWent secrets near generation past → keying_at near threads ≡ Some generation
  pub keying : (near generation : ℕ) → keying_at near threads ≡ Some generation → KeyingWent secrets near generation past

none_some : (g : ℕ) → None ≡ Some g → ⊥
none_some g e = absurd cc

module _ (secrets : Secrets) (past : Past) (threads : ThreadTable) (are : AreKept secrets past threads) (s : Stamped) where
  no_keying : out_done s.what ≡ None → (near generation : ℕ) → IsKeying secrets near generation (out_done s.what) → ⊥
  no_keying none near generation keying = subst (IsKeying secrets near generation) none keying

  -- nothing begins and goes out
  pub kept_plain : out_done s.what ≡ None → started_id (fact_done s.what) ≡ None → sought_id (sought_done s.what) ≡ None → AreKept secrets (s ∷ past) threads
  kept_plain out start sought = record {
    went = λ near generation went. elim went [ inl now ↦ absurd (no_keying out near generation now) | inr before ↦ are.went near generation before.3 ];
    keying = λ near generation e. inr (no_keying out near, subst (GoesOn near) (sym start) tt, subst (GoesOn near) (sym sought) tt, are.keying near generation e);
  }

  -- something begins under a session ID
  module _ (id : ℕ) (drawn : Option (List ℕ)) where
    gone : (near generation : ℕ) → (id ≡ near → ⊥) → KeyingWent secrets near generation past → keying_at near (with_start id drawn threads) ≡ Some generation
    gone near generation other went = keying_beside threads id (started drawn (get threads id)) near (λ e. other (sym e)) ∙ are.went near generation went

    back : (near generation : ℕ) → keying_at near (with_start id drawn threads) ≡ Some generation → (id ≡ near → ⊥) × KeyingWent secrets near generation past
    back near generation e = elim (tested id near) [
      | inl is ↦ absurd (none_some generation (sym (ap (λ (n : ℕ). keying_at n (with_start id drawn threads)) (sym is.0) ∙ keying_here threads id (started drawn (get threads id))) ∙ e))
      | inr is ↦ (is.0, are.keying near generation (sym (keying_beside threads id (started drawn (get threads id)) near (λ f. is.0 (sym f))) ∙ e))
    ]

    pub kept_started : out_done s.what ≡ None → started_id (fact_done s.what) ≡ Some id → sought_id (sought_done s.what) ≡ None → AreKept secrets (s ∷ past) (with_start id drawn threads)
    kept_started out start sought = record {
      went = λ near generation went. elim went [
        | inl now ↦ absurd (no_keying out near generation now)
        | inr before ↦ gone near generation (subst (GoesOn near) start before.1) before.3
      ];
      keying = λ near generation e.
          let b = back near generation e in
          inr (no_keying out near, subst (GoesOn near) (sym start) b.0, subst (GoesOn near) (sym sought) tt, b.1);
    }

    pub kept_sought : out_done s.what ≡ None → started_id (fact_done s.what) ≡ None → sought_id (sought_done s.what) ≡ Some id → AreKept secrets (s ∷ past) (with_start id drawn threads)
    kept_sought out start sought = record {
      went = λ near generation went. elim went [
        | inl now ↦ absurd (no_keying out near generation now)
        | inr before ↦ gone near generation (subst (GoesOn near) sought before.2) before.3
      ];
      keying = λ near generation e.
          let b = back near generation e in
          inr (no_keying out near, subst (GoesOn near) (sym start) tt, subst (GoesOn near) (sym sought) b.0, b.1);
    }

-- keyings of these go out in one generation
pub keyed_among : (generation : ℕ) (nears : List ℕ) (threads : ThreadTable) (q : ℕ) →
    (Among q nears × (keying_at q (with_keyings generation nears threads) ≡ Some generation)) ⊎ ((Among q nears → ⊥) × (keying_at q (with_keyings generation nears threads) ≡ keying_at q threads))
keyed_among generation [] threads q = inr ((λ none. none), refl)
keyed_among generation (near ∷ more) threads q = elim (keyed_among generation more (with_keying generation near threads) q) [
  | inl later ↦ inl (inr later.0, later.1)
  | inr no_later ↦ elim (tested q near) [
    | inl is ↦ inl (inl is.0, no_later.1 ∙ ap (λ (n : ℕ). keying_at n (with_keying generation near threads)) is.0 ∙ keying_here threads near (keyed generation (get threads near)))
    | inr is ↦ inr ((λ among. elim among [ inl here ↦ is.0 here | inr there ↦ no_later.0 there ]), no_later.1 ∙ keying_beside threads near (keyed generation (get threads near)) q is.0)
  ]
]

module _ (secrets : Secrets) (past : Past) (threads : ThreadTable) (are : AreKept secrets past threads) (s : Stamped) (sent : Sending) (out : out_done s.what ≡ Some sent) (start : started_id (fact_done s.what) ≡ None)
    (sought : sought_id (sought_done s.what) ≡ None) (keyings : List ℕ) (told : AreKeyingsOf secrets (Some sent) keyings) where
  now_in : (near generation : ℕ) → IsKeying secrets near generation (out_done s.what) → IsKeying secrets near generation (Some sent)
  now_in near generation keying = subst (IsKeying secrets near generation) out keying

  -- in a startup context
  pub kept_keyed : (current : ℕ) → sent.context ≡ Startup current → AreKept secrets (s ∷ past) (with_keyings current keyings threads)
  kept_keyed current context = record {
    went = λ near generation went. elim (keyed_among current keyings threads near) [
      | inl among ↦ elim went [
        | inl now ↦ among.1 ∙ ap Some (same_generation near generation (now_in near generation now))
        | inr before ↦ absurd (let k = told.is near among.0 in before.0 k.0 (subst (IsKeying secrets near k.0) (sym out) k.1))
      ]
      | inr not_among ↦ elim went [
        | inl now ↦ absurd (not_among.0 (told.there near generation (now_in near generation now)))
        | inr before ↦ not_among.1 ∙ are.went near generation before.3
      ]
    ];
    keying = λ near generation e. elim (keyed_among current keyings threads near) [
      | inl among ↦
          let k = told.is near among.0 in
          let same : k.0 ≡ generation = sym (same_generation near k.0 k.1) ∙ some_is current generation (sym among.1 ∙ e) in
          inl (subst (λ (g : ℕ). IsKeying secrets near g (out_done s.what)) same (subst (IsKeying secrets near k.0) (sym out) k.1))
      | inr not_among ↦ inr (
        (λ other now. not_among.0 (told.there near other (now_in near other now))),
        subst (GoesOn near) (sym start) tt,
        subst (GoesOn near) (sym sought) tt,
        are.keying near generation (sym not_among.1 ∙ e),
      )
    ];
  }
    where
      some_is : (a b : ℕ) → Some a ≡ Some b → a ≡ b
      some_is a b e = cc

      startup_one : (a b : ℕ) → Startup a ≡ Startup b → a ≡ b
      startup_one a b e = cc

      same_generation : (near generation : ℕ) → IsKeying secrets near generation (Some sent) → current ≡ generation
      same_generation near generation keying = startup_one current generation (sym context ∙ keying.context)

  -- in no startup context
  pub kept_beside : ((current : ℕ) → sent.context ≡ Startup current → ⊥) → AreKept secrets (s ∷ past) threads
  kept_beside other = record {
    went = λ near generation went. elim went [
      | inl now ↦ absurd (other generation (now_in near generation now).context)
      | inr before ↦ are.went near generation before.3
    ];
    keying = λ near generation e. inr (
      (λ g now. other g (now_in near g now).context),
      subst (GoesOn near) (sym start) tt,
      subst (GoesOn near) (sym sought) tt,
      are.keying near generation e,
    );
  }
