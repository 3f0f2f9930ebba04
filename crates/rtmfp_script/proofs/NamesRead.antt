-- Names, certificates, and words that are joined by a byte.
use Rattle.std.proofs.Common.{◌≡◌, ◌≢◌, ℕ, ◌≤◌, ◌&&◌, true, List, ◌∷◌, ◌++◌, length, Some, refl, sym, ap, ◌∙◌, subst, arith}
use Rattle.std.specs.Prelude.{nat_lt, nat_le}
use Rattle.std.specs.List.{list_all}
use Rattle.std.proofs.lemmas.Bool.{and_parts, and_from, le-leb}
use Rattle.std.proofs.lemmas.Bool.Decides.{nat_tests}
use Rattle.rtmfp_script.specs.Grammar.{IsName, IsCert, is_name_byte}
use Rattle.rtmfp_script.specs.Fields.{name_of, is_name, cert_of, is_cert}
use Rattle.rtmfp_script.proofs.Splits.{only_if-some, Lacks, each_is, each_passes}

-- a part, the byte behind it, and the rest, each as it was read
pub rejoin : (b : ℕ) (text front back word rest : List ℕ) → text ≡ front ++ b ∷ back → front ≡ word → back ≡ rest → text ≡ word ++ b ∷ rest
rejoin b text front back word rest joined is then = joined ∙ ap (λ xs. xs ++ b ∷ back) is ∙ ap (λ xs. word ++ b ∷ xs) then

pub name_of-some : (word name : List ℕ) → name_of word ≡ Some name → (word ≡ name) × IsName name
unfolding name_of
name_of-some word name h =
    let found = only_if-some (is_name word) word name h in
    let first = and_parts (nat_le 1 (length word)) (nat_le (length word) 16 && list_all is_name_byte word) found.0 in
    let second = and_parts (nat_le (length word) 16) (list_all is_name_byte word) first.1 in
    let some : 1 ≤ length word = grind (arith, nat_tests, first.0) in
    let short : length word ≤ 16 = grind (arith, nat_tests, second.0) in
    (found.1, subst IsName found.1 (record { some = some; short = short; plain = second.1 }))

pub name_of-name : (name : List ℕ) → IsName name → name_of name ≡ Some name
unfolding name_of
name_of-name name is =
    let test : is_name name ≡ true = and_from _ _ (le-leb 1 (length name) is.some) (and_from _ _ (le-leb (length name) 16 is.short) is.plain) in
    rw test refl

pub not_space : (x : ℕ) → is_name_byte x ≡ true → x ≢ 32
not_space x h e = let space : is_name_byte 32 ≡ true = ap is_name_byte (sym e) ∙ h in cc space

pub lacks_name : (name : List ℕ) → IsName name → Lacks 32 name
lacks_name name is = each_is (λ x. is_name_byte x ≡ true) (λ x. x ≢ 32) not_space name (each_passes is_name_byte name is.plain)

pub cert_of-some : (rest cert : List ℕ) → cert_of rest ≡ Some cert → (rest ≡ cert) × IsCert cert
unfolding cert_of
cert_of-some rest cert h =
    let found = only_if-some (is_cert rest) rest cert h in
    let first = and_parts (nat_le 17 (length rest)) (nat_le (length rest) 80 && list_all (λ b. nat_lt b 0x80) rest) found.0 in
    let second = and_parts (nat_le (length rest) 80) (list_all (λ b. nat_lt b 0x80) rest) first.1 in
    let least : 17 ≤ length rest = grind (arith, nat_tests, first.0) in
    let most : length rest ≤ 80 = grind (arith, nat_tests, second.0) in
    (found.1, subst IsCert found.1 (record { least = least; most = most; ascii = second.1 }))

pub cert_of-cert : (cert : List ℕ) → IsCert cert → cert_of cert ≡ Some cert
unfolding cert_of
cert_of-cert cert is =
    let test : is_cert cert ≡ true = and_from _ _ (le-leb 17 (length cert) is.least) (and_from _ _ (le-leb (length cert) 80 is.most) is.ascii) in
    rw test refl
