-- The text of a run is the report of what its lines added to the journal and lost.
use Rattle.std.proofs.Common.{◌≡◌, ℕ, zero, suc, ◌+◌, ◌<◌, ◌≤◌, ◌⊎◌, List, [], ◌∷◌, ◌++◌, length, take, drop, slice_index_or, Contains, inl, inr, refl, sym, ap, ◌∙◌, append_assoc, append-nil, eq-or-lt_of_le, subst, arith}
use Rattle.std.proofs.Math.Seq.{take-append_seam}
use Rattle.std.proofs.lemmas.List.{drop_at, length-append, length_push, take_at}
use Rattle.std.proofs.lemmas.List.Elements.{Contains-append_cases, Contains-append_right}
use Rattle.rtmfp_text.specs.declared.names.Named.{Named}
use Rattle.rendezvous_world.specs.declared.journal.JournalLine.{JournalLine}
use Rattle.rendezvous_world.specs.Inside.{count_in}
use Rattle.rendezvous_world.specs.Seen.{Seen}
use Rattle.placed_world.specs.Seen.{PlacedSeen}
use Rattle.placed_world.specs.declared.step.LostLine.{LostLine}
use Rattle.rendezvous_world.specs.Sent.{sent_in}
use Rattle.rendezvous_world.proofs.Entered.{sent_more}
use Rattle.rtmfp_report.specs.LostText.{lost_line}
use Rattle.rtmfp_play.specs.Play.{empty_placed, name_at, names_of, told_of}
use Rattle.rtmfp_play.specs.Laws.{Adds, AddsLoss, AddsNone, AddsOne, IsLostOn}
use Rattle.rtmfp_play.proofs.Losing.{AreThere, adds_there, lost_below, one_loss, same_loss}
use Rattle.rtmfp_play.proofs.Reported.{each_line_is_told}
use Rattle.rtmfp_cli.specs.declared.doing.Doing.{Doing}
use Rattle.rtmfp_cli.specs.declared.doing.Doing.TheVariants.{Playing}
use Rattle.rtmfp_cli.specs.Doing.{Does, playing}
use Rattle.rtmfp_cli.specs.Script.{Runs}
use Rattle.rtmfp_cli.specs.Laws.{AreSame, EachTextIsTheReport, HasPlayed, IsReport, IsThere, Line, Loss, LostAt, Rises, Told, done_on, journal_in}
use Rattle.rtmfp_cli.proofs.Going.{runs_append}
use Rattle.rtmfp_cli.proofs.OneRun.{each_script_has_one_run}

-- ---- small facts

next_or : (count n : ℕ) → count < n → (n ≡ count + 1) ⊎ (count + 1 < n)
next_or count n lt =
    elim (eq-or-lt_of_le lt) [
      | inl is ↦ inl (omega (arith, is))
      | inr more ↦ inr (omega (arith, more))
    ]

rises_more : (less more : ℕ) (told : List Told) → less ≤ more → Rises more told → Rises less told
rises_more less more [] le rises = tt
rises_more less more (first ∷ told) le rises = (let lt : more < done_on first = rises.0 in omega arith, rises.1)

none_in : (x : Told) → Contains [] x → ⊥
none_in x h = let lt : h.0 < 0 = h.1 in omega arith

first_in : (x : Told) (told : List Told) → Contains (x ∷ told) x
first_in x told = (0, omega arith, refl)

later_in : (x y : Told) (told : List Told) → Contains told y → Contains (x ∷ told) y
later_in x y told h = Contains-append_right (x ∷ []) told y h

same_loss_told : (n k : ℕ) (a b : LostLine) → n ≡ k → a ≡ b → Loss n a ≡ Loss k b
same_loss_told n k a b e f = ap (λ (i : ℕ). Loss i a) e ∙ ap (λ (l : LostLine). Loss k l) f

alone_at : (k : ℕ) (x y : Told) → k < length (x ∷ []) → slice_index_or (x ∷ []) k y ≡ y → x ≡ y
alone_at zero x y lt e = e
alone_at (suc k) x y lt e = let few : suc k < 1 = lt in absurd (omega arith)

first_or : (x y : Told) (told : List Told) → Contains (x ∷ told) y → (x ≡ y) ⊎ Contains told y
first_or x y told h =
    elim (Contains-append_cases (x ∷ []) told y h) [
      | inl alone ↦ inl (alone_at alone.0 x y alone.1 alone.2)
      | inr later ↦ inr later
    ]

-- ---- the lines that were played

-- one line more
played_more : (all : List (List ℕ)) (count : ℕ) (u m : PlacedSeen) (line : List ℕ) (lines : List (List ℕ)) (first : List ℕ) → HasPlayed all count u (line ∷ lines) → Does (Playing u) (count + 1) line (Playing m) first → HasPlayed all (count + 1) m lines
played_more all count u m line lines first has does = record {
  early = has.early ++ line ∷ [];
  split = has.split ∙ sym (append_assoc has.early (line ∷ []) lines);
  size = length_push has.early line ∙ ap (λ (k : ℕ). k + 1) has.size;
  text = has.text ++ (first ++ []);
  ran = runs_append 1 (count + 1) playing (Playing u) (Playing m) has.early (line ∷ []) has.text (first ++ []) (omega (arith, has.size)) has.ran (Playing m, first, [], does, (refl, refl), refl);
}

-- no line is left that could lose anything
none_left : (all : List (List ℕ)) (count : ℕ) (u : PlacedSeen) (n : ℕ) (lost : LostLine) → HasPlayed all count u [] → count < n → LostAt all n lost → ⊥
none_left all count u n lost has more at =
    let played = at.played in
    let whole : length all ≡ length has.early + 0 = ap (λ (l : List (List ℕ)). length l) has.split ∙ length-append has.early [] in
    let other : length all ≡ length played.early + suc (length at.later) = ap (λ (l : List (List ℕ)). length l) played.split ∙ length-append played.early (at.line ∷ at.later) in
    omega (arith, whole, other, has.size, played.size, at.number)

-- the same number of lines was played: the same line is next, in a world that is the same
lost_here : (all : List (List ℕ)) (count : ℕ) (u : PlacedSeen) (line : List ℕ) (lines : List (List ℕ)) (n : ℕ) (lost : LostLine) → HasPlayed all count u (line ∷ lines) → n ≡ count + 1 → LostAt all n lost → IsLostOn u line lost
lost_here all count u line lines n lost has is at =
    let played = at.played in
    let size : length played.early ≡ count = omega (arith, played.size, at.number, is) in
    let whole : has.early ++ line ∷ lines ≡ played.early ++ at.line ∷ at.later = sym has.split ∙ played.split in
    let early : has.early ≡ played.early = sym (take_at has.early (line ∷ lines) count has.size) ∙ ap (λ (l : List (List ℕ)). take count l) whole ∙ take_at played.early (at.line ∷ at.later) count size in
    let left : line ∷ lines ≡ at.line ∷ at.later = sym (drop_at has.early (line ∷ lines) count has.size) ∙ ap (λ (l : List (List ℕ)). drop count l) whole ∙ drop_at played.early (at.line ∷ at.later) count size in
    let next : line ≡ at.line = cc in
    let ran : Runs 1 playing has.early (Playing at.world) played.text = subst (λ (l : List (List ℕ)). Runs 1 playing l (Playing at.world) played.text) (sym early) played.ran in
    let one = each_script_has_one_run 1 playing (Playing u) (Playing at.world) has.early has.text played.text has.ran ran in
    let same : AreSame (Playing u) (Playing at.world) = one.0 in
    same_loss u at.world line lost (record { worlds = same.0; places = same.1 }) (subst (λ (l : List ℕ). IsLostOn at.world l lost) (sym next) at.is_lost)

-- what holds of a loss on the next line, and of those on later ones, holds of all that are left
of_all : (all : List (List ℕ)) (count : ℕ) (u : PlacedSeen) (line : List ℕ) (lines : List (List ℕ)) (P : ℕ → LostLine → Type 0) → HasPlayed all count u (line ∷ lines) →
    ((n : ℕ) (lost : LostLine) → n ≡ count + 1 → IsLostOn u line lost → P n lost) → ((n : ℕ) (lost : LostLine) → count + 1 < n → LostAt all n lost → P n lost) →
    (n : ℕ) (lost : LostLine) → count < n → LostAt all n lost → P n lost
of_all all count u line lines P has here later n lost lt at =
    elim (next_or count n lt) [
      | inl is ↦ here n lost is (lost_here all count u line lines n lost has is at)
      | inr more ↦ later n lost more at
    ]

-- ---- what is told of the lines that are left

-- what the lines of a script after so many added to a world and lost, and their text
record Reports (all : List (List ℕ)) (count : ℕ) (u w : Seen) (text : List ℕ) : Type 0 where
  pub told : List Told
  pub lines : w.lines ≡ u.lines ++ journal_in told
  pub only_lost : (n : ℕ) (lost : LostLine) → Contains told (Loss n lost) → LostAt all n lost
  pub all_lost : (n : ℕ) (lost : LostLine) → count < n → LostAt all n lost → Contains told (Loss n lost)
  pub rises : Rises count told
  pub ends : List Named
  pub names : names_of w ≡ names_of u ++ ends
  pub report : IsReport all (names_of w) (length (sent_in u.lines)) told text

-- the next line of a script was played: what it left, and what is told of the lines after it
record Next (all : List (List ℕ)) (count : ℕ) (u m w : PlacedSeen) (line : List ℕ) (lines : List (List ℕ)) (rest : List ℕ) : Type 0 where
  pub has : HasPlayed all count u (line ∷ lines)
  pub there : AreThere u.world
  pub played : HasPlayed all (count + 1) m lines
  pub ends : List Named
  pub names : names_of m.world ≡ names_of u.world ++ ends
  pub reports : Reports all (count + 1) m.world w.world rest

module _ (all : List (List ℕ)) (count : ℕ) (u m w : PlacedSeen) (line : List ℕ) (lines : List (List ℕ)) (first rest : List ℕ) (next : Next all count u m w line lines rest) where
  names_left : names_of w.world ≡ names_of u.world ++ (next.ends ++ next.reports.ends)
  names_left = next.reports.names ∙ ap (λ (l : List Named). l ++ next.reports.ends) next.names ∙ append_assoc (names_of u.world) next.ends next.reports.ends

  known : take (length (names_of m.world)) (names_of w.world) ≡ names_of m.world
  known = ap (λ (l : List Named). take (length (names_of m.world)) l) next.reports.names ∙ take-append_seam (names_of m.world) next.reports.ends

  -- an end of now
  is_there : (n end : ℕ) → n ≡ count + 1 → end < length (names_of m.world) → IsThere all (names_of w.world) n (length (names_of m.world)) end
  is_there n end is lt = record {
    had = record { world = m; later = lines; played = subst (λ (k : ℕ). HasPlayed all k m lines) (sym is) next.played; count = refl };
    among = lt;
    first = omega (arith, ap (λ (l : List Named). length l) next.reports.names, length-append (names_of m.world) next.reports.ends);
  }

  -- a line that loses nothing
  later_lost : (told : List Told) → ((lost : LostLine) → IsLostOn u line lost → ⊥) → ((n : ℕ) (lost : LostLine) → Contains next.reports.told (Loss n lost) → Contains told (Loss n lost)) →
      (n : ℕ) (lost : LostLine) → count < n → LostAt all n lost → Contains told (Loss n lost)
  later_lost told none more = of_all all count u line lines (λ n lost. Contains told (Loss n lost)) next.has
      (λ n lost is here. absurd (none lost here)) (λ n lost lt at. more n lost (next.reports.all_lost n lost lt at))

  -- it adds no line to the journal
  behind_none : AddsNone u line m first → Reports all count u.world w.world (first ++ rest)
  behind_none none =
      let here : IsReport all (names_of w.world) (length (sent_in u.world.lines)) next.reports.told rest =
      subst (λ (l : List JournalLine). IsReport all (names_of w.world) (length (sent_in l)) next.reports.told rest) none.lines next.reports.report in
      record {
        told = next.reports.told;
        lines = next.reports.lines ∙ ap (λ (l : List JournalLine). l ++ journal_in next.reports.told) none.lines;
        only_lost = next.reports.only_lost;
        all_lost = later_lost next.reports.told none.none_lost (λ n lost h. h);
        rises = rises_more count (count + 1) next.reports.told (omega arith) next.reports.rises;
        ends = next.ends ++ next.reports.ends;
        names = names_left;
        report = subst (λ (x : List ℕ). IsReport all (names_of w.world) (length (sent_in u.world.lines)) next.reports.told x) (sym (ap (λ (x : List ℕ). x ++ rest) none.no_text)) here;
      }

  not_line : (added : JournalLine) (n : ℕ) (lost : LostLine) → Contains (Line added ∷ next.reports.told) (Loss n lost) → LostAt all n lost
  not_line added n lost h =
      elim (first_or (Line added) (Loss n lost) next.reports.told h) [
        | inl e ↦ absurd (cc)
        | inr later ↦ next.reports.only_lost n lost later
      ]

  -- it adds one
  behind_one : AddsOne u (count + 1) line m first → Reports all count u.world w.world (first ++ rest)
  behind_one one =
      let told : List Told = Line one.added ∷ next.reports.told in
      let rise : count < one.added.line = omega (arith, one.number) in
      let sent : length (sent_in m.world.lines) ≡ length (sent_in u.world.lines) + count_in one.added = ap (λ (l : List JournalLine). length (sent_in l)) one.lines ∙ sent_more u.world.lines one.added in
      let then : IsReport all (names_of w.world) (length (sent_in u.world.lines) + count_in one.added) next.reports.told rest =
      subst (λ (k : ℕ). IsReport all (names_of w.world) k next.reports.told rest) sent next.reports.report in
      record {
        told = told;
        lines = next.reports.lines ∙ ap (λ (l : List JournalLine). l ++ journal_in next.reports.told) one.lines ∙ append_assoc u.world.lines (one.added ∷ []) (journal_in next.reports.told);
        only_lost = not_line one.added;
        all_lost = later_lost told one.none_lost (λ n lost h. later_in (Line one.added) (Loss n lost) next.reports.told h);
        rises = (rise, subst (λ (k : ℕ). Rises k next.reports.told) (sym one.number) next.reports.rises);
        ends = next.ends ++ next.reports.ends;
        names = names_left;
        report = (
          length (names_of m.world),
          rest,
          is_there one.added.line one.added.end one.number one.there,
          ap (λ (x : List ℕ). x ++ rest) (one.told ∙ ap (λ (l : List Named). told_of l (length (sent_in u.world.lines)) one.added one.added.refused) (sym known)),
          then,
        );
      }

  -- the datagram that it loses, and what is lost later
  lost_or : (lost : LostLine) → IsLostOn u line lost → (n : ℕ) (other : LostLine) → Contains (Loss (count + 1) lost ∷ next.reports.told) (Loss n other) → LostAt all n other
  lost_or lost is n other h =
      elim (first_or (Loss (count + 1) lost) (Loss n other) next.reports.told h) [
        | inl e ↦ (let number : count + 1 ≡ n = cc in let same : lost ≡ other = cc in
            record { before = count; number = sym number; world = u; line = line; later = lines; played = next.has; is_lost = subst (λ (l : LostLine). IsLostOn u line l) same is })
        | inr later ↦ next.reports.only_lost n other later
      ]

  lost_all : (lost : LostLine) → IsLostOn u line lost → (n : ℕ) (other : LostLine) → count < n → LostAt all n other → Contains (Loss (count + 1) lost ∷ next.reports.told) (Loss n other)
  lost_all lost is = of_all all count u line lines (λ n other. Contains (Loss (count + 1) lost ∷ next.reports.told) (Loss n other)) next.has
      (λ n other number here. let same : Loss (count + 1) lost ≡ Loss n other = same_loss_told (count + 1) n lost other (sym number) (one_loss u line lost other is here) in
      subst (λ (x : Told). Contains (Loss (count + 1) lost ∷ next.reports.told) x) same (first_in (Loss (count + 1) lost) next.reports.told))
      (λ n other lt at. later_in (Loss (count + 1) lost) (Loss n other) next.reports.told (next.reports.all_lost n other lt at))

  behind_loss : AddsLoss u (count + 1) line m first → Reports all count u.world w.world (first ++ rest)
  behind_loss loss =
      let then : IsReport all (names_of w.world) (length (sent_in u.world.lines)) next.reports.told rest =
      subst (λ (l : List JournalLine). IsReport all (names_of w.world) (length (sent_in l)) next.reports.told rest) loss.lines next.reports.report in
      let rise : count < count + 1 = omega arith in
      let below : loss.lost.end < length (names_of u.world) = lost_below u line loss.lost (length (names_of u.world)) loss.is_lost next.there in
      record {
        told = Loss (count + 1) loss.lost ∷ next.reports.told;
        lines = next.reports.lines ∙ ap (λ (l : List JournalLine). l ++ journal_in next.reports.told) loss.lines;
        only_lost = lost_or loss.lost loss.is_lost;
        all_lost = lost_all loss.lost loss.is_lost;
        rises = (rise, next.reports.rises);
        ends = next.ends ++ next.reports.ends;
        names = names_left;
        report = (
          length (names_of m.world),
          rest,
          is_there (count + 1) loss.lost.end refl (omega (arith, below, ap (λ (l : List Named). length l) next.names, length-append (names_of u.world) next.ends)),
          ap (λ (x : List ℕ). x ++ rest) (loss.told ∙ ap (λ (l : List Named). lost_line (count + 1) (name_at l loss.lost.end) loss.lost.number loss.lost.lost) (sym known)),
          then,
        );
      }

  behind : Adds u (count + 1) line m first → Reports all count u.world w.world (first ++ rest)
  behind adds =
      elim adds.lines [
        | inl none ↦ behind_none none
        | inr some ↦ (elim some [
          | inl one ↦ behind_one one
          | inr loss ↦ behind_loss loss
        ])
      ]

-- ---- all lines

one_more : (all : List (List ℕ)) (count : ℕ) (u w : PlacedSeen) (line : List ℕ) (lines : List (List ℕ)) (middle : Doing) (first rest : List ℕ) → HasPlayed all count u (line ∷ lines) → AreThere u.world →
    Does (Playing u) (count + 1) line middle first → Runs (count + 1 + 1) middle lines (Playing w) rest →
    ((m : PlacedSeen) → HasPlayed all (count + 1) m lines → AreThere m.world → Runs (count + 1 + 1) (Playing m) lines (Playing w) rest → Reports all (count + 1) m.world w.world rest) → Reports all count u.world w.world (first ++ rest)
one_more all count u w line lines (Playing m) first rest has there does ran later =
    let adds : Adds u (count + 1) line m first = each_line_is_told u (count + 1) line m first does in
    let played : HasPlayed all (count + 1) m lines = played_more all count u m line lines first has does in
    let reports : Reports all (count + 1) m.world w.world rest = later m played (adds_there u (count + 1) line m first adds there) ran in
    behind all count u m w line lines first rest (record { has = has; there = there; played = played; ends = adds.ends; names = adds.names; reports = reports }) adds
one_more all count u w line lines _ first rest has there does ran later = absurd does

same_world : (u w : PlacedSeen) → Playing w ≡ Playing u → w ≡ u
same_world u w e = cc

reports : (all : List (List ℕ)) (count : ℕ) (u w : PlacedSeen) (lines : List (List ℕ)) (text : List ℕ) → HasPlayed all count u lines → AreThere u.world → Runs (count + 1) (Playing u) lines (Playing w) text → Reports all count u.world w.world text
reports all count u w [] text has there ran =
    let same : w.world ≡ u.world = ap (λ (p : PlacedSeen). p.world) (same_world u w ran.0) in
    record {
      told = [];
      lines = ap (λ (x : Seen). x.lines) same ∙ sym (append-nil u.world.lines);
      only_lost = λ n lost h. absurd (none_in (Loss n lost) h);
      all_lost = λ n lost lt at. absurd (none_left all count u n lost has lt at);
      rises = tt;
      ends = [];
      names = ap names_of same ∙ sym (append-nil (names_of u.world));
      report = ran.1;
    }
reports all count u w (line ∷ lines) text has there ran =
    subst (λ (x : List ℕ). Reports all count u.world w.world x) (sym ran.5)
    (one_more all count u w line lines ran.0 ran.1 ran.2 has there ran.3 ran.4 (λ m played still then. reports all (count + 1) m w lines ran.2 played still then))

pub each_text_is_the_report : EachTextIsTheReport
each_text_is_the_report lines w text ran =
    let all : Reports lines 0 empty_placed.world w.world text = reports lines 0 empty_placed w lines text (record { early = []; split = refl; size = refl; text = []; ran = (refl, refl) }) tt ran in
    record {
      told = all.told;
      journal = sym all.lines;
      only_lost = all.only_lost;
      all_lost = λ n lost at. all.all_lost n lost (omega (arith, at.number)) at;
      rises = all.rises;
      report = all.report;
    }
