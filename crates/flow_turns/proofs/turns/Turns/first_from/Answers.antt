use Rattle.std.proofs.Common.{◌≡◌, ℕ, ◌+◌, ◌*◌, ◌/◌, ◌%◌, ◌<◌, ◌≤◌, ◌^◌, List, get_or, sym, ap, ◌∙◌, subst, rules}
use Rattle.std.specs.Int.{bit_at}
use Rattle.flow_turns.specs.Turns.{IsFirst, IsLowestBit}
use Rattle.flow_turns.proofs.Turning.{next_within, some_bit, behind_word}
use Rattle.flow_turns.proofs.turns.Turns.first_from.Goals as goal

pub bounds-self-inside-next : goal.bounds-self-inside-next
bounds-self-inside-next c =
    let fits : c.self.inside.full < 2 ^ 32 = search rules in
    let next : IsLowestBit c.from.result (c.args.turn / 64 + 1) c.in-Some-lowest-2.next = c.in-Some-lowest-2.ensures in
    next_within c.self.inside.full c.in-Some-lowest-2.next fits (ap (λ (n : ℕ). bit_at n c.in-Some-lowest-2.next) (sym c.from.ensures) ∙ next.set)

pub returns-in_default-lowest-3 : goal.returns-in_default-lowest-3
returns-in_default-lowest-3 c =
    let full_fits : c.self.inside.full < 2 ^ 32 = search rules in
    let next : IsLowestBit c.from.result (c.args.turn / 64 + 1) c.in-Some-lowest-2.next = c.in-Some-lowest-2.ensures in
    let set : bit_at c.self.inside.full c.in-Some-lowest-2.next ≡ 1 = ap (λ (n : ℕ). bit_at n c.in-Some-lowest-2.next) (sym c.from.ensures) ∙ next.set in
    let fits : get_or c.self.inside.words c.in-Some-lowest-2.next 0 < 2 ^ 64 = search rules in
    absurd (some_bit c.self.inside.full c.self.inside.words c.in-Some-lowest-2.next c.self.invariant (next_within c.self.inside.full c.in-Some-lowest-2.next full_fits set) set c.in_default-lowest-3.ensures fits)

pub returns : goal.returns
returns c =
    let word : c.in-Some.word.now ≡ get_or c.self.inside.words (c.args.turn / 64) 0 = search rules in
    let rest : (i : ℕ) → c.args.turn % 64 ≤ i → bit_at (get_or c.self.inside.words (c.args.turn / 64) 0) i ≡ 0 =
    λ i le. ap (λ (w : ℕ). bit_at w i) (sym word) ∙ c.in_default-lowest.ensures i le in
    let next : IsLowestBit c.self.inside.full (c.args.turn / 64 + 1) c.in-Some-lowest-2.next = subst (λ (n : ℕ). IsLowestBit n (c.args.turn / 64 + 1) c.in-Some-lowest-2.next) c.from.ensures c.in-Some-lowest-2.ensures in
    subst (λ (ws : List ℕ). IsFirst ws c.args.turn (c.in-Some-lowest-2.next * 64 + c.in-Some-lowest-3.bit)) c.self.view_is
    (behind_word c.self.inside.full c.self.inside.words c.args.turn c.in-Some-lowest-2.next c.in-Some-lowest-3.bit c.self.told c.self.invariant rest next c.in-Some-lowest-3.ensures)
