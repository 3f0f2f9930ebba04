-- Rows whose numbers that are lost by time are marked, and that they are what all sessions of an end are then.
use Rattle.std.proofs.Common.{ℕ, ◌≡◌, ◌<◌, ◌+◌, ◌&&◌, List, [], ◌∷◌, map, Bool, true, false, cond, if◌then◌else◌, Option, Some, None, T, inl, inr, refl, sym, ap, ◌∙◌, arith}
use Rattle.std.specs.Option.{option_map}
use Rattle.std.specs.Ordering.{nat_cmp, eq_by_cmp, is_lt}
use Rattle.std.specs.FinMap.{get, keys, entries, entries_sorted, get-entries, is_sorted}
use Rattle.std.specs.FinMap as fin
use Rattle.std.specs.FinMap.Entries.{below_all}
use Rattle.std.proofs.lemmas.Bool.Decides.{nat_tests}
use Rattle.rtmfp_base.proofs.Maps.{same_tables, same_or_not, get_inserted, get_beside}
use Rattle.session_core.specs.Session.{SessionState}
use Rattle.session_core.specs.Closing.{with_loss}
use Rattle.session_flows.specs.Timing.{is_any_late}
use Rattle.endpoint_model.specs.declared.row.Row.{Row}
use Rattle.endpoint_model.specs.State.{State, Sessions, with_sessions}
use Rattle.endpoint_model.specs.FlowTimes.{late_marked, late_at, late_each, all_late}
use Rattle.session_table.specs.Table.{near_of}
use Rattle.session_table.specs.FlowTimes.{AreLate}

-- ---- each row stays under its session ID

keeps_if : (b : Bool) (s t : SessionState) → t.joined.near ≡ s.joined.near → (if b then t else s).joined.near ≡ s.joined.near
keeps_if true s t e = e
keeps_if false s t e = refl

pub late_keeps : (moment : ℕ) (row : Row) → near_of (late_marked moment row) ≡ near_of row
late_keeps moment row = keeps_if (is_any_late row.session row.flows moment) row.session (with_loss true row.session) refl

-- ---- entries by rising keys

first_of : (a b : Bool) → T (a && b) → T a
first_of true b h = tt
first_of false b h = h

second_of : (a b : Bool) → T (a && b) → T b
second_of true b h = h
second_of false b h = absurd h

less_than : (a b : ℕ) → T (is_lt (nat_cmp a b)) → a < b
less_than a b h = grind (arith, nat_tests)

apart : (a b : ℕ) → a < b → eq_by_cmp nat_cmp a b ≡ false
apart a b h = grind (arith, nat_tests)

above_none : (x q : ℕ) (es : List (ℕ × Row)) → T (below_all nat_cmp x es) → q < x + 1 → fin.find nat_cmp q es ≡ None
above_none x q [] h less = refl
above_none x q (e ∷ es) h less =
    let up : x < e.0 = less_than x e.0 (first_of _ (below_all nat_cmp x es) h) in
    let bad : eq_by_cmp nat_cmp q e.0 ≡ false = apart q e.0 (omega arith) in
    ap (λ (b : Bool). cond b (Some e.1) (fin.find nat_cmp q es)) bad ∙ above_none x q es (second_of (is_lt (nat_cmp x e.0)) (below_all nat_cmp x es) h) less

-- ---- what is left of all sessions

at_itself : (s : State) (near : ℕ) (o : Option Row) → get s.sessions near ≡ o → get (late_at s near o).sessions near ≡ option_map (late_marked s.moment) o
at_itself s near None e = e
at_itself s near (Some row) e = get_inserted s.sessions near (late_marked s.moment row)

at_others : (s : State) (near q : ℕ) (o : Option Row) → (q ≡ near → ⊥) → get (late_at s near o).sessions q ≡ get s.sessions q
at_others s near q None other = refl
at_others s near q (Some row) other = get_beside s.sessions near (late_marked s.moment row) q other

same_moment : (s : State) (near : ℕ) (o : Option Row) → (late_at s near o).moment ≡ s.moment
same_moment s near None = refl
same_moment s near (Some row) = refl

same_rest : (s : State) (near : ℕ) (o : Option Row) (m : Sessions) → with_sessions (late_at s near o) m ≡ with_sessions s m
same_rest s near None m = refl
same_rest s near (Some row) m = refl

each_same : (ks : List ℕ) (s : State) → late_each ks s ≡ with_sessions s (late_each ks s).sessions
each_same [] s = refl
each_same (k ∷ ks) s = each_same ks (late_at s k (get s.sessions k)) ∙ same_rest s k (get s.sessions k) (late_each ks (late_at s k (get s.sessions k))).sessions

abbrev by_found : ℕ → Option Row → Option Row → Option Row
by_found moment None o = o
by_found moment (Some row) o = option_map (late_marked moment) o

each_got : (es : List (ℕ × Row)) → T (is_sorted nat_cmp es) → (s : State) (q : ℕ) → get (late_each (map (λ e. e.0) es) s).sessions q ≡ by_found s.moment (fin.find nat_cmp q es) (get s.sessions q)
each_got [] sorted s q = refl
each_got (e ∷ es) sorted s q =
    let t : State = late_at s e.0 (get s.sessions e.0) in
    let below : T (below_all nat_cmp e.0 es) = first_of _ (is_sorted nat_cmp es) sorted in
    let rest : T (is_sorted nat_cmp es) = second_of (below_all nat_cmp e.0 es) _ sorted in
    each_got es rest t q ∙ ap (λ (m : ℕ). by_found m (fin.find nat_cmp q es) (get t.sessions q)) (same_moment s e.0 (get s.sessions e.0))
    ∙ elim (same_or_not q e.0) [
      | inl is ↦
          let none : fin.find nat_cmp q es ≡ None = above_none e.0 q es below (let same : q ≡ e.0 = is.0 in omega arith) in
          ap (λ (o : Option Row). by_found s.moment o (get t.sessions q)) none
          ∙ ap (get t.sessions) is.0 ∙ at_itself s e.0 (get s.sessions e.0) refl ∙ ap (λ (k : ℕ). option_map (late_marked s.moment) (get s.sessions k)) (sym is.0)
          ∙ sym (ap (λ (b : Bool). by_found s.moment (cond b (Some e.1) (fin.find nat_cmp q es)) (get s.sessions q)) is.1)
      | inr is ↦
          ap (by_found s.moment (fin.find nat_cmp q es)) (at_others s e.0 q (get s.sessions e.0) is.0)
          ∙ sym (ap (λ (b : Bool). by_found s.moment (cond b (Some e.1) (fin.find nat_cmp q es)) (get s.sessions q)) is.1)
    ]

found_itself : (moment : ℕ) (o : Option Row) → by_found moment o o ≡ option_map (late_marked moment) o
found_itself moment None = refl
found_itself moment (Some row) = refl

-- the state in which the late numbers of each row are marked
pub all_late_is : (s : State) (new : Sessions) → AreLate s.moment s.sessions new → all_late s ≡ with_sessions s new
all_late_is s new late =
    each_same (keys s.sessions) s ∙ ap (with_sessions s) (same_tables _ _ (λ q. each_got (entries s.sessions) (entries_sorted s.sessions) s q
    ∙ ap (λ (o : Option Row). by_found s.moment o (get s.sessions q)) (sym (get-entries s.sessions q)) ∙ found_itself s.moment (get s.sessions q) ∙ sym (late q)))
