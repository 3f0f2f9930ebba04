-- What a turn that was broken off has written, beside what it has sent.
use Rattle.std.proofs.Common.{◌≡◌, inl, inr, ℕ, zero, suc, ◌+◌, ◌≤◌, false, List, [], ◌∷◌, ◌++◌, take, length, refl, sym, ap, ◌∙◌, subst, length-append, arith}
use Rattle.rtmfp_forms.specs.Address.{AddressParts}
use Rattle.rtmfp_host.specs.declared.link.LinkCall.{LinkCall}
use Rattle.rtmfp_host.specs.declared.link.LinkCall.TheVariants.{Send}
use Rattle.rtmfp_node.specs.declared.sending.Front.{Front}
use Rattle.rtmfp_node.specs.Report.{unsent_line, unsent_text}
use Rattle.rtmfp_node.specs.Cut.{IsPart, LinesSoFar}

take_own : (xs ys : List ℕ) → take (length xs) (xs ++ ys) ≡ xs
take_own [] ys = refl
take_own (x ∷ xs) ys = ap (λ zs. x ∷ zs) (take_own xs ys)

take_within : (m k : ℕ) (xs : List ℕ) → m ≤ k → take m (take k xs) ≡ take m xs
take_within zero k xs h = refl
take_within (suc m) zero xs h = absurd (omega (arith, h))
take_within (suc m) (suc k) [] h = refl
take_within (suc m) (suc k) (x ∷ xs) h = let less : m ≤ k = omega (arith, h) in ap (λ zs. x ∷ zs) (take_within m k xs less)

-- where something was sent, the report stands whole in front
pub report_first : (front : Front) (count : ℕ) (report part : List ℕ) (call : LinkCall) (calls : List LinkCall) → IsPart front count report (call ∷ calls) part → take (length report) part ≡ report
report_first front count report part call calls (inl h) = let none = h.0 in absurd (cc (none))
report_first front count report part call calls (inr h) = ap (take (length report)) h.2 ∙ take_own report h.0

-- a line that stands first in a text, of which at least so much was written
line_first : (line rest lines : List ℕ) (k : ℕ) → lines ≡ take k (line ++ rest) → length line ≤ k → take (length line) lines ≡ line
line_first line rest lines k part within = ap (take (length line)) part ∙ take_within (length line) k (line ++ rest) within ∙ take_own line rest

-- the first of more than one sends is among the earlier ones
pub lost_first : (front : Front) (count : ℕ) (to : AddressParts) (datagram : List ℕ) (call : LinkCall) (calls earlier last : List LinkCall) (lines : List ℕ) (k : ℕ) →
    (Send to datagram false ∷ call ∷ calls) ≡ earlier ++ last → length last ≤ 1 → lines ≡ take k (unsent_text front count (Send to datagram false ∷ call ∷ calls)) →
    length (unsent_text front count earlier) ≤ k → take (length (unsent_line front (count + 1))) lines ≡ unsent_line front (count + 1)
lost_first front count to datagram call calls [] last lines k all one part whole =
    let two : suc (suc (length calls)) ≡ length last = ap length all in
    absurd (omega (arith, two, one))
lost_first front count to datagram call calls (e ∷ earlier) last lines k all one part whole =
    let first : Send to datagram false ≡ e = cc (all) in
    let line = unsent_line front (count + 1) in
    let more = unsent_text front (count + 1) earlier in
    let within : length (line ++ more) ≤ k = subst (λ (c : LinkCall). length (unsent_text front count (c ∷ earlier)) ≤ k) (sym first) whole in
    let sum = length-append line more in
    let fits : length line ≤ k = omega (arith, within, sum) in
    line_first line (unsent_text front (count + 1) (call ∷ calls)) lines k part fits
