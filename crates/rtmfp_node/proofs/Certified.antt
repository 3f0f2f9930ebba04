-- Instance bytes and a name are a certificate.
use Rattle.std.proofs.Common.{◌≡◌, ℕ, ◌+◌, ◌≤◌, Bool, true, false, nat_lt, List, [], ◌∷◌, ◌++◌, drop, length, refl, sym, ap, ◌∙◌, arith, Some, None, Result, Ok, Err, if◌then◌else◌}
use Rattle.std.specs.List.{list_all}
use Rattle.std.proofs.lemmas.Bool.Decides.{nat_tests}
use Rattle.std.proofs.lemmas.List.{length-append}
use Rattle.identity.specs.declared.cert.CertFault.TheVariants.{Short, LongName, NotAscii}
use Rattle.identity.specs.Certificates.{IsCertificate, certificate_fault, has_ascii_name}
use Rattle.rtmfp_words.specs.Node.{IsNodeName}

not_below : (m n : ℕ) → n ≤ m → nat_lt m n ≡ false
not_below m n h = grind (arith, nat_tests)

drop_front : (xs ys : List ℕ) → drop (length xs) (xs ++ ys) ≡ ys
drop_front [] ys = refl
drop_front (x ∷ xs) ys = drop_front xs ys

has_name : (instance name : List ℕ) → length instance ≡ 16 → IsNodeName name → has_ascii_name (instance ++ name) ≡ true
has_name instance name is named =
    ap (list_all (λ b. nat_lt b 0x80)) (ap (λ n. drop n (instance ++ name)) (sym is) ∙ drop_front instance name) ∙ named.ascii

sum : (instance name : List ℕ) → length instance ≡ 16 → length (instance ++ name) ≡ 16 + length name
sum instance name is = length-append instance name ∙ ap (λ n. n + length name) is

pub is_certificate : (instance name : List ℕ) → length instance ≡ 16 → IsNodeName name → IsCertificate (instance ++ name)
is_certificate instance name is named =
    let all = sum instance name is in
    let some = named.some in
    let most = named.most in record {
      named = omega (arith, all, some);
      short_named = omega (arith, all, most);
      ascii = has_name instance name is named;
    }

pub no_fault : (instance name : List ℕ) → length instance ≡ 16 → IsNodeName name → certificate_fault (instance ++ name) ≡ None
no_fault instance name is named =
    let bytes = instance ++ name in
    let cert = is_certificate instance name is named in
    let some = cert.named in
    let most = cert.short_named in
    let first = not_below (length bytes) 17 (omega (arith, some)) in
    let second = not_below 80 (length bytes) (omega (arith, most)) in
    ap (λ (b : Bool). if b then Some Short else (if nat_lt 80 (length bytes) then Some LongName else (if has_ascii_name bytes then None else Some NotAscii))) first
    ∙ ap (λ (b : Bool). if b then Some LongName else (if has_ascii_name bytes then None else Some NotAscii)) second
    ∙ ap (λ (b : Bool). if b then None else Some NotAscii) cert.ascii

pub never : {A E : Type 0} (a : A) (e : E) (r : Result A E) → r ≡ Ok a → r ≡ Err e → ⊥
never {A} {E} a e r one two = let h : ◌≡◌ {A = Result A E} (Ok a) (Err e) = sym one ∙ two in cc

pub is_read : {E : Type 0} (bytes value : List ℕ) (r : Result (List ℕ) E) → r ≡ Ok bytes → r ≡ Ok value → value ≡ bytes
is_read {E} bytes value r one two = let h : ◌≡◌ {A = Result (List ℕ) E} (Ok value) (Ok bytes) = sym two ∙ one in cc (h)
