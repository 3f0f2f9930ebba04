-- The words of `serve`: what is read is said, and what is said is read.
use Rattle.std.proofs.Common.{◌≡◌, ℕ, List, Option, Some, None, ap, ◌∙◌, refl, subst, arith, inl, inr, codes}
use Rattle.std.specs.Prelude.{◌≤◌, is_none, map, decimal, String, string_bytes}
use Rattle.std.specs.Option.{option_map}
use Rattle.std.specs.declared.alloc.Global.{Global}
use Rattle.rtmfp_script.specs.Fields.{◌>>=◌}
use Rattle.rtmfp_script.specs.Grammar.{IsPlainAddress}
use Rattle.rtmfp_script.proofs.Splits.{some_some, bind_some}
use Rattle.rtmfp_words.specs.Items.{Scanned}
use Rattle.rtmfp_words.specs.Node.{Commands, IsServe, Serving, serve_items, AreTurns, AreBytes, IsNodeName, EachIsOpening, IsInstance, IsSent, IsNext, IsTurnToAdvance, IsLabel}
use Rattle.rtmfp_words.specs.NodeReading.{scan_behind, number_within, turns_of, Places, places_of, instance_of, send_of, next_of, advance_of, journal_of, serve_from, serve_of}
use Rattle.rtmfp_words.proofs.Texts.{if-some}
use Rattle.rtmfp_words.proofs.Meeting.{scan_behind-some, scan_behind-said, within-some, within-decimal, none_is, options}
use Rattle.rtmfp_words.proofs.Openings.{places_of-some, places_of-said, instance_of-some, instance_of-text, send_of-some, send_of-text, next_of-some, next_of-text, journal_of-some, journal_of-text}

-- what the values are
record Serves (s : Scanned) (v : Serving) : Type 0 where
  items : s ≡ serve_items v
  bind : IsPlainAddress v.bind
  group : AreBytes 32 v.group
  name : IsNodeName v.name
  openings : EachIsOpening v.openings
  turns : AreTurns v.turns
  instance : IsInstance v.instance
  send : IsSent v.send
  next : IsNext v.group v.next
  advance : IsTurnToAdvance v.next v.turns v.advance
  journal : IsLabel v.journal

-- the last step
made : Scanned → Places → ℕ → Option (List ℕ) → Option (List ℕ) → Option (List ℕ) → Option ℕ → Option (List ℕ) → Serving
made s p turns instance send next advance journal = record {
  bind = p.bind;
  group = p.group;
  name = p.name;
  openings = p.openings;
  turns = turns;
  instance = instance;
  introduce = s.introduce;
  send = send;
  next = next;
  advance = advance;
  journal = journal;
}

same_items : (s : Scanned) (plain : List (List ℕ)) (turns : List ℕ) (instance send next advance journal : Option (List ℕ)) → s.plain ≡ plain → s.turns ≡ Some turns → s.port ≡ None → s.instance ≡ instance → s.send ≡ send → s.next ≡ next → s.advance ≡ advance → s.journal ≡ journal →
    s ≡ record { plain = plain; turns = Some turns; port = None; instance = instance; send = send; next = next; advance = advance; journal = journal; introduce = s.introduce }
unfolding options
same_items s plain turns instance send next advance journal p t o i d n v j =
    ap (λ x. options x s.turns s.port s.instance s.send s.next s.advance s.journal s.introduce) p
    ∙ ap (λ x. options plain x s.port s.instance s.send s.next s.advance s.journal s.introduce) t
    ∙ ap (λ x. options plain (Some turns) x s.instance s.send s.next s.advance s.journal s.introduce) o
    ∙ ap (λ x. options plain (Some turns) None x s.send s.next s.advance s.journal s.introduce) i
    ∙ ap (λ x. options plain (Some turns) None instance x s.next s.advance s.journal s.introduce) d
    ∙ ap (λ x. options plain (Some turns) None instance send x s.advance s.journal s.introduce) n
    ∙ ap (λ x. options plain (Some turns) None instance send next x s.journal s.introduce) v
    ∙ ap (λ x. options plain (Some turns) None instance send next advance x s.introduce) j

-- the turn of an advance
advance_of-some : (next : Option (List ℕ)) (turns : ℕ) (value : Option (List ℕ)) (advance : Option ℕ) → advance_of next turns value ≡ Some advance → (value ≡ option_map decimal advance) × IsTurnToAdvance next turns advance
unfolding advance_of
advance_of-some None turns None advance h =
    subst (λ (x : Option ℕ). (None ≡ option_map decimal x) × IsTurnToAdvance None turns x) (some_some None advance h) (refl, tt)
advance_of-some (Some next) turns None advance h =
    subst (λ (x : Option ℕ). (None ≡ option_map decimal x) × IsTurnToAdvance (Some next) turns x) (some_some None advance h) (refl, tt)
advance_of-some None turns (Some word) advance h = absurd (cc)
advance_of-some (Some next) turns (Some word) advance h =
    let b = bind_some (number_within 1 turns word) (λ turn. Some (Some turn)) advance h in
    let found = within-some 1 turns word b.0 b.1 in
    subst (λ (x : Option ℕ). (Some word ≡ option_map decimal x) × IsTurnToAdvance (Some next) turns x) (some_some (Some b.0) advance b.2) (ap (λ (w : List ℕ). Some w) found.0, (found.1, found.2))

advance_of-text : (next : Option (List ℕ)) (turns : ℕ) (advance : Option ℕ) → turns ≤ 1000000 → IsTurnToAdvance next turns advance → advance_of next turns (option_map decimal advance) ≡ Some advance
unfolding advance_of
advance_of-text None turns None few is = refl
advance_of-text (Some next) turns None few is = refl
advance_of-text None turns (Some turn) few is = absurd is
advance_of-text (Some next) turns (Some turn) few is = ap (λ (o : Option ℕ). o >>= λ x. Some (Some x)) (within-decimal 1 turns turn is.0 is.1 (omega arith))

serve_from-some : (s : Scanned) (v : Serving) → serve_from s ≡ Some v → Serves s v
unfolding serve_from made
serve_from-some s v h = elim (if-some (is_none s.port) _ None v h) [
  | inr other ↦ absurd (let e : None ≡ Some v = other.1 in cc)
  | inl bare ↦
      let p = bind_some (places_of s.plain) (λ p. turns_of s >>= λ turns. instance_of s.instance >>= λ instance. send_of s.send >>= λ send. next_of p.group s.next >>= λ next. advance_of next turns s.advance >>= λ advance. journal_of s.journal >>= λ journal. Some (made s p turns instance send next advance journal)) v bare.1 in
      let t = bind_some (turns_of s) (λ turns. instance_of s.instance >>= λ instance. send_of s.send >>= λ send. next_of p.0.group s.next >>= λ next. advance_of next turns s.advance >>= λ advance. journal_of s.journal >>= λ journal. Some (made s p.0 turns instance send next advance journal)) v p.2 in
      let i = bind_some (instance_of s.instance) (λ instance. send_of s.send >>= λ send. next_of p.0.group s.next >>= λ next. advance_of next t.0 s.advance >>= λ advance. journal_of s.journal >>= λ journal. Some (made s p.0 t.0 instance send next advance journal)) v t.2 in
      let d = bind_some (send_of s.send) (λ send. next_of p.0.group s.next >>= λ next. advance_of next t.0 s.advance >>= λ advance. journal_of s.journal >>= λ journal. Some (made s p.0 t.0 i.0 send next advance journal)) v i.2 in
      let n = bind_some (next_of p.0.group s.next) (λ next. advance_of next t.0 s.advance >>= λ advance. journal_of s.journal >>= λ journal. Some (made s p.0 t.0 i.0 d.0 next advance journal)) v d.2 in
      let a = bind_some (advance_of n.0 t.0 s.advance) (λ advance. journal_of s.journal >>= λ journal. Some (made s p.0 t.0 i.0 d.0 n.0 advance journal)) v n.2 in
      let j = bind_some (journal_of s.journal) (λ journal. Some (made s p.0 t.0 i.0 d.0 n.0 a.0 journal)) v a.2 in
      let turns = bind_some s.turns (number_within 1 1000000) t.0 t.1 in
      let turns_is = within-some 1 1000000 turns.0 t.0 turns.2 in
      let places = places_of-some s.plain p.0 p.1 in
      let instance = instance_of-some s.instance i.0 i.1 in
      let send = send_of-some s.send d.0 d.1 in
      let next = next_of-some p.0.group s.next n.0 n.1 in
      let advance = advance_of-some n.0 t.0 s.advance a.0 a.1 in
      let journal = journal_of-some s.journal j.0 j.1 in
      subst (λ (x : Serving). Serves s x) (some_some (made s p.0 t.0 i.0 d.0 n.0 a.0 j.0) v j.2) (record {
        items = same_items s _ (decimal t.0) _ _ _ _ _ places.texts (turns.1 ∙ ap (λ (w : List ℕ). Some w) turns_is.0) (none_is s.port bare.0) instance.0 send.0 next.0 advance.0 journal.0;
        bind = places.bind;
        group = places.group;
        name = places.name;
        openings = places.openings;
        turns = record { some = turns_is.1; most = turns_is.2 };
        instance = instance.1;
        send = send.1;
        next = next.1;
        advance = advance.1;
        journal = journal.1;
      })
]

places_in : Serving → Places
places_in v = record { bind = v.bind; group = v.group; name = v.name; openings = v.openings }

serve_from-said : (v : Serving) → IsPlainAddress v.bind → AreBytes 32 v.group → IsNodeName v.name → EachIsOpening v.openings → AreTurns v.turns → IsInstance v.instance → IsSent v.send → IsNext v.group v.next → IsTurnToAdvance v.next v.turns v.advance → IsLabel v.journal → serve_from (serve_items v) ≡ Some v
unfolding serve_from made places_in
serve_from-said v bind group name openings turns instance send next advance journal =
    let s = serve_items v in
    ap (λ (o : Option Places). o >>= λ p. turns_of s >>= λ t. instance_of s.instance >>= λ i. send_of s.send >>= λ d. next_of p.group s.next >>= λ n. advance_of n t s.advance >>= λ a. journal_of s.journal >>= λ j. Some (made s p t i d n a j)) (places_of-said (places_in v) bind group name openings)
    ∙ ap (λ (o : Option ℕ). o >>= λ t. instance_of s.instance >>= λ i. send_of s.send >>= λ d. next_of v.group s.next >>= λ n. advance_of n t s.advance >>= λ a. journal_of s.journal >>= λ j. Some (made s (places_in v) t i d n a j)) (within-decimal 1 1000000 v.turns turns.some turns.most (omega arith))
    ∙ ap (λ (o : Option (Option (List ℕ))). o >>= λ i. send_of s.send >>= λ d. next_of v.group s.next >>= λ n. advance_of n v.turns s.advance >>= λ a. journal_of s.journal >>= λ j. Some (made s (places_in v) v.turns i d n a j)) (instance_of-text v.instance instance)
    ∙ ap (λ (o : Option (Option (List ℕ))). o >>= λ d. next_of v.group s.next >>= λ n. advance_of n v.turns s.advance >>= λ a. journal_of s.journal >>= λ j. Some (made s (places_in v) v.turns v.instance d n a j)) (send_of-text v.send send)
    ∙ ap (λ (o : Option (Option (List ℕ))). o >>= λ n. advance_of n v.turns s.advance >>= λ a. journal_of s.journal >>= λ j. Some (made s (places_in v) v.turns v.instance v.send n a j)) (next_of-text v.group v.next next)
    ∙ ap (λ (o : Option (Option ℕ)). o >>= λ a. journal_of s.journal >>= λ j. Some (made s (places_in v) v.turns v.instance v.send v.next a j)) (advance_of-text v.next v.turns v.advance turns.most advance)
    ∙ ap (λ (o : Option (Option (List ℕ))). o >>= λ j. Some (made s (places_in v) v.turns v.instance v.send v.next v.advance j)) (journal_of-text v.journal journal)

-- as the reader tells it
pub serve_read : (words : List (String Global)) (v : Serving) → serve_of (map string_bytes words) ≡ Some v → IsServe words v
unfolding serve_of
serve_read words v h =
    let n = bind_some (scan_behind (codes "serve") (map string_bytes words)) serve_from v h in
    let told = serve_from-some n.0 v n.2 in record {
      said = subst (λ (s : Scanned). Commands (codes "serve") words s) told.items (scan_behind-some (codes "serve") words n.0 n.1);
      bind = told.bind;
      group = told.group;
      name = told.name;
      openings = told.openings;
      turns = told.turns;
      instance = told.instance;
      send = told.send;
      next = told.next;
      advance = told.advance;
      journal = told.journal;
    }

pub serve_said : (words : List (String Global)) (v : Serving) → IsServe words v → serve_of (map string_bytes words) ≡ Some v
unfolding serve_of
serve_said words v h =
    ap (λ (o : Option Scanned). o >>= serve_from) (scan_behind-said (codes "serve") words (serve_items v) h.said)
    ∙ serve_from-said v h.bind h.group h.name h.openings h.turns h.instance h.send h.next h.advance h.journal
