-- The session IDs of keyings, by a walk over the chunks.
use Rattle.std.proofs.Common.{ℕ, ◌≡◌, ◌==◌, ◌⊎◌, inl, inr, Bool, true, false, ◌||◌, List, [], ◌∷◌, ◌++◌, Option, Some, None, refl, sym, ap, subst, ◌∙◌, arith}
use Rattle.std.specs.List.{list_any}
use Rattle.std.specs.Option.{option_map}
use Rattle.std.proofs.lemmas.Bool.Decides.{nat_tests}
use Rattle.rtmfp_packet.specs.Walk.{Placed}
use Rattle.log_packets.specs.declared.fields.InitiatorKeying.{InitiatorKeying}
use Rattle.log_packets.specs.Asked.{SomeChunk, IsKeyingWith, InitiatorFields, initiator_shown, SaysInitiator}
use Rattle.log_packets.proofs.Chunks.{one_is, later_is, which_is}

abbrev has : List ℕ → ℕ → Bool
has ids near = list_any (λ id. id == near) ids

-- Each keying of all is of these or is one of the rest, and these are of all.
pub record SoFar (all rest : List Placed) (ids : List ℕ) : Type 0 where
  pub there : (near : ℕ) → SomeChunk (IsKeyingWith near) all → (has ids near ≡ true) ⊎ SomeChunk (IsKeyingWith near) rest
  pub is : (near : ℕ) → has ids near ≡ true → SomeChunk (IsKeyingWith near) all
  pub rest_is : (near : ℕ) → SomeChunk (IsKeyingWith near) rest → SomeChunk (IsKeyingWith near) all

pub none_yet : (all : List Placed) → SoFar all all []
none_yet all = record { there = λ near s. inr s; is = λ near e. absurd (let clash : false ≡ true = e in cc); rest_is = λ near s. s }

in_either : (a b : Bool) → (a || b) ≡ true → (a ≡ true) ⊎ (b ≡ true)
in_either true b e = inl refl
in_either false b e = inr e

first_of_two : (a b : Bool) → a ≡ true → (a || b) ≡ true
first_of_two true b e = refl
first_of_two false b e = absurd cc

second_of_two : (a b : Bool) → b ≡ true → (a || b) ≡ true
second_of_two true b e = refl
second_of_two false b e = e

-- one more at the end
has_front : (ids : List ℕ) (id near : ℕ) → has ids near ≡ true → has (ids ++ id ∷ []) near ≡ true
has_front [] id near e = absurd cc
has_front (i ∷ ids) id near e = elim (in_either (i == near) (has ids near) e) [
  | inl here ↦ first_of_two (i == near) (has (ids ++ id ∷ []) near) here
  | inr later ↦ second_of_two (i == near) (has (ids ++ id ∷ []) near) (has_front ids id near later)
]

has_last : (ids : List ℕ) (id : ℕ) → has (ids ++ id ∷ []) id ≡ true
has_last [] id = first_of_two (id == id) false (grind (arith, nat_tests))
has_last (i ∷ ids) id = second_of_two (i == id) (has (ids ++ id ∷ []) id) (has_last ids id)

has_which : (ids : List ℕ) (id near : ℕ) → has (ids ++ id ∷ []) near ≡ true → (has ids near ≡ true) ⊎ (id ≡ near)
has_which [] id near e = elim (in_either (id == near) false e) [
  | inl here ↦ inr (let same : (id == near) ≡ true = here in grind (arith, nat_tests))
  | inr never ↦ absurd (let clash : false ≡ true = never in cc)
]
has_which (i ∷ ids) id near e = elim (in_either (i == near) (has (ids ++ id ∷ []) near) e) [
  | inl here ↦ inl (first_of_two (i == near) (has ids near) here)
  | inr later ↦ elim (has_which ids id near later) [
    | inl before ↦ inl (second_of_two (i == near) (has ids near) before)
    | inr last ↦ inr last
  ]
]

abbrev fields_of : (near : ℕ) (cookie cert part sign : List ℕ) → InitiatorFields
fields_of near cookie cert part sign = record { near = near; cookie = cookie; cert = cert; part = part; sign = sign }

the_near : (k j : InitiatorFields) → Some k ≡ Some j → k.near ≡ j.near
the_near k j e = let same : k ≡ j = cc in ap (λ (f : InitiatorFields). f.near) same

module _ (all old rest : List Placed) (ids : List ℕ) (c : Placed) (so_far : SoFar all old ids) (steps : old ≡ c ∷ rest) where
  later_in : (near : ℕ) → SomeChunk (IsKeyingWith near) rest → SomeChunk (IsKeyingWith near) all
  later_in near s = so_far.rest_is near (subst (SomeChunk (IsKeyingWith near)) (sym steps) (later_is (IsKeyingWith near) c rest s))

  -- a chunk that is no keying
  pub no_keying : (o : Option InitiatorKeying) → SaysInitiator c.kind c.payload (option_map initiator_shown o) → o ≡ None → SoFar all rest ids
  no_keying o says none = record {
    there = λ near s. elim (so_far.there near s) [
      | inl has_it ↦ inl has_it
      | inr later ↦ elim (which_is (IsKeyingWith near) c rest (subst (SomeChunk (IsKeyingWith near)) steps later)) [
        | inl here ↦ absurd (never (ap (option_map initiator_shown) (sym none) ∙ says.no (fields_of near here.cookie here.cert here.part here.sign) here.spells))
        | inr more ↦ inr more
      ]
    ];
    is = so_far.is;
    rest_is = later_in;
  }
    where
      never : {f : InitiatorFields} → ◌≡◌ {A = Option InitiatorFields} None (Some f) → ⊥
      never e = absurd cc

  -- and one that is
  pub one_keying : (o : Option InitiatorKeying) (k : InitiatorKeying) (new : List ℕ) → SaysInitiator c.kind c.payload (option_map initiator_shown o) → o ≡ Some k → new ≡ ids ++ k.near ∷ [] → SoFar all rest new
  one_keying o k new says some is_new =
      let found : option_map initiator_shown o ≡ Some (initiator_shown k) = ap (option_map initiator_shown) some in
      let spells = says.yes (initiator_shown k) found in
      subst (SoFar all rest) (sym is_new) (record {
        there = λ near s. elim (so_far.there near s) [
          | inl has_it ↦ inl (has_front ids k.near near has_it)
          | inr later ↦ elim (which_is (IsKeyingWith near) c rest (subst (SomeChunk (IsKeyingWith near)) steps later)) [
            | inl here ↦ inl (
                let same : k.near ≡ near = the_near (initiator_shown k) (fields_of near here.cookie here.cert here.part here.sign) (sym found ∙ says.no (fields_of near here.cookie here.cert here.part here.sign) here.spells) in
                subst (λ n. has (ids ++ k.near ∷ []) n ≡ true) same (has_last ids k.near))
            | inr more ↦ inr more
          ]
        ];
        is = λ near e. elim (has_which ids k.near near e) [
          | inl before ↦ so_far.is near before
          | inr last ↦ subst (λ n. SomeChunk (IsKeyingWith n) all) last
              (so_far.rest_is k.near (subst (SomeChunk (IsKeyingWith k.near)) (sym steps) (one_is (IsKeyingWith k.near) c rest (record { cookie = k.cookie.now; cert = k.cert.now; part = k.part.now; sign = k.sign.now; spells = spells }))))
        ];
        rest_is = later_in;
      })
