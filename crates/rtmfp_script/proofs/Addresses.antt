-- Addresses.
use Rattle.std.proofs.Common.{◌≡◌, ◌≢◌, ℕ, ◌*◌, ◌^◌, ◌<◌, ◌≤◌, ◌==◌, ◌&&◌, Bool, true, false, List, [], ◌∷◌, ◌++◌, length, drop, Some, None, refl, sym, ap, ◌∙◌, subst, arith, inl, inr, append-nil}
use Rattle.std.specs.Prelude.{nat_lt, slice_index, replicate, decimal, if◌then◌else◌}
use Rattle.std.specs.List.{list_all}
use Rattle.std.proofs.lemmas.Bool.{and_parts, and_from, cases_Bool, eq-eqb, ne_eqb, eqb-true, lt-ltb}
use Rattle.std.proofs.lemmas.Bool.Decides.{nat_tests}
use Rattle.std.proofs.lemmas.List.{drop_all}
use Rattle.std.proofs.lemmas.Fmt.{decimal_nonempty}
use Rattle.hex.specs.Hex.{encode_lower}
use Rattle.rtmfp_forms.specs.Address.{AddressParts}
use Rattle.rtmfp_text.specs.AddressText.{address_text, host_text, v4_host_text, v6_host_text}
use Rattle.rtmfp_script.specs.Grammar.{IsHost, IsPlainAddress}
use Rattle.rtmfp_script.specs.Fields.{split_of, number_below, digits_of, v4_of, v6_of, v4_address, v6_address, address_at, address_of, is_lower_digit}
use Rattle.rtmfp_script.proofs.Splits.{some_some, bind_some, Each, Lacks, each_is, each_append, each_passes, split_text, split_joined}
use Rattle.rtmfp_script.proofs.Numbers.{number_below-some, number_below-decimal, IsDigit, each_decimal}
use Rattle.rtmfp_script.proofs.Digits.{digits_of-some, digits_of-encoded, length-encoded, lower_encoded}
use Rattle.rtmfp_script.proofs.NamesRead.{rejoin}

-- ---- an address that was read

-- the four numbers of a host that was read
record IsV4 (host bytes : List ℕ) : Type 0 where
  a : ℕ
  b : ℕ
  c : ℕ
  d : ℕ
  is : bytes ≡ a ∷ b ∷ c ∷ d ∷ []
  text : host ≡ decimal a ++ 46 ∷ (decimal b ++ 46 ∷ (decimal c ++ 46 ∷ decimal d))
  a_fits : a < 256
  b_fits : b < 256
  c_fits : c < 256
  d_fits : d < 256

v4_of-some : (host bytes : List ℕ) → v4_of host ≡ Some bytes → IsV4 host bytes
unfolding v4_of
v4_of-some host bytes h =
    let p = bind_some (split_of 46 host) _ bytes h in
    let q = bind_some (split_of 46 p.0.1) _ bytes p.2 in
    let r = bind_some (split_of 46 q.0.1) _ bytes q.2 in
    let a = bind_some (number_below 256 p.0.0) _ bytes r.2 in
    let b = bind_some (number_below 256 q.0.0) _ bytes a.2 in
    let c = bind_some (number_below 256 r.0.0) _ bytes b.2 in
    let d = bind_some (number_below 256 r.0.1) _ bytes c.2 in
    let an = number_below-some 256 p.0.0 a.0 a.1 in
    let bn = number_below-some 256 q.0.0 b.0 b.1 in
    let cn = number_below-some 256 r.0.0 c.0 c.1 in
    let dn = number_below-some 256 r.0.1 d.0 d.1 in
    record {
      a = a.0;
      b = b.0;
      c = c.0;
      d = d.0;
      is = sym (some_some _ _ d.2);
      text =
          rejoin 46 host p.0.0 p.0.1 _ _ (split_joined 46 host p.0 p.1) an.0
          (rejoin 46 p.0.1 q.0.0 q.0.1 _ _ (split_joined 46 p.0.1 q.0 q.1) bn.0
          (rejoin 46 q.0.1 r.0.0 r.0.1 _ _ (split_joined 46 q.0.1 r.0 r.1) cn.0 dn.0));
      a_fits = an.1;
      b_fits = bn.1;
      c_fits = cn.1;
      d_fits = dn.1;
    }

-- a host of brackets that was read
record IsV6 (rest bytes : List ℕ) : Type 0 where
  size : length bytes ≡ 16
  text : rest ≡ encode_lower bytes ++ 93 ∷ []
  fits : list_all (λ b. nat_lt b 256) bytes ≡ true

v6_test : (parts : List ℕ × List ℕ) (bytes : List ℕ) (good : Bool) → (length parts.1 == 0 && length parts.0 == 32) ≡ good →
    (if good then digits_of parts.0 else None) ≡ Some bytes → (length parts.1 ≡ 0) × (length parts.0 ≡ 32) × (digits_of parts.0 ≡ Some bytes)
v6_test parts bytes true e h = let both = and_parts (length parts.1 == 0) (length parts.0 == 32) e in (eqb-true _ _ both.0, eqb-true _ _ both.1, h)
v6_test parts bytes false e h = absurd (cc)

none_left : (xs : List ℕ) → length xs ≡ 0 → xs ≡ []
none_left [] e = refl
none_left (x ∷ xs) e = absurd (cc)

v6_of-some : (rest bytes : List ℕ) → v6_of rest ≡ Some bytes → IsV6 rest bytes
unfolding v6_of
v6_of-some rest bytes h =
    let p = bind_some (split_of 93 rest) _ bytes h in
    let test = v6_test p.0 bytes (length p.0.1 == 0 && length p.0.0 == 32) refl p.2 in
    let digits = digits_of-some p.0.0 bytes test.2 in
    let size : length p.0.0 ≡ 2 * length bytes = ap length digits.0 ∙ length-encoded bytes in
    record {
      size = omega (arith, size, test.1);
      text = rejoin 93 rest p.0.0 p.0.1 _ _ (split_joined 93 rest p.0 p.1) digits.0 (none_left p.0.1 test.0);
      fits = digits.1;
    }

-- what was read of a host and a port
record IsRead (host : List ℕ) (port : ℕ) (address : AddressParts) : Type 0 where
  host_is : host ≡ host_text address
  port_is : address.port ≡ port
  address_is : IsPlainAddress address

front_of : (host : List ℕ) → slice_index host 0 ≡ 91 → host ≡ 91 ∷ drop 1 host
front_of [] e = absurd (omega arith)
front_of (b ∷ host) e = ap (λ (x : ℕ). x ∷ host) e

v6_read : (port : ℕ) (host bytes : List ℕ) → port < 2 ^ 16 → slice_index host 0 ≡ 91 → IsV6 (drop 1 host) bytes → IsRead host port (v6_address port bytes)
unfolding v6_host_text
v6_read port host bytes small first is = record {
  host_is = front_of host first ∙ ap (λ xs. 91 ∷ xs) is.text;
  port_is = refl;
  address_is = record {
    form = record { origin = omega arith; host = is.size; filled = drop_all 16 bytes (let e = is.size in omega arith); port = small };
    origin = refl;
    each = is.fits;
  };
}

v4_fits : (a b c d : ℕ) → a < 256 → b < 256 → c < 256 → d < 256 → list_all (λ x. nat_lt x 256) ((a ∷ b ∷ c ∷ d ∷ []) ++ replicate 12 0) ≡ true
v4_fits a b c d ha hb hc hd = and_from _ _ (lt-ltb a 256 ha) (and_from _ _ (lt-ltb b 256 hb) (and_from _ _ (lt-ltb c 256 hc) (and_from _ _ (lt-ltb d 256 hd) refl)))

v4_joined : (a b c d : ℕ) → decimal a ++ 46 ∷ (decimal b ++ 46 ∷ (decimal c ++ 46 ∷ decimal d)) ≡ v4_host_text ((a ∷ b ∷ c ∷ d ∷ []) ++ replicate 12 0)
unfolding v4_host_text
v4_joined a b c d = ap (λ xs. decimal a ++ 46 ∷ (decimal b ++ 46 ∷ (decimal c ++ 46 ∷ xs))) (sym (append-nil (decimal d)))

v4_read : (port : ℕ) (host bytes : List ℕ) → port < 2 ^ 16 → IsV4 host bytes → IsRead host port (v4_address port bytes)
v4_read port host bytes small is =
    subst (λ (bs : List ℕ). IsRead host port (v4_address port bs)) (sym is.is)
    (let read : IsRead host port (v4_address port (is.a ∷ is.b ∷ is.c ∷ is.d ∷ [])) = record {
      host_is = is.text ∙ v4_joined is.a is.b is.c is.d;
      port_is = refl;
      address_is = record {
        form = record { origin = omega arith; host = refl; filled = refl; port = small };
        origin = refl;
        each = v4_fits is.a is.b is.c is.d is.a_fits is.b_fits is.c_fits is.d_fits;
      };
    } in read)

address_at-some : (host : List ℕ) (port : ℕ) (address : AddressParts) → port < 2 ^ 16 → address_at host port ≡ Some address → IsRead host port address
unfolding address_at
address_at-some host port address small h = elim (cases_Bool (slice_index host 0 == 91)) [
  | inl is ↦
      let p = bind_some (v6_of (drop 1 host)) (λ bytes. Some (v6_address port bytes)) address (rw is at h) in
      subst (IsRead host port) (some_some _ _ p.2) (v6_read port host p.0 small (eqb-true _ _ is) (v6_of-some (drop 1 host) p.0 p.1))
  | inr other ↦
      let p = bind_some (v4_of host) (λ bytes. Some (v4_address port bytes)) address (rw other at h) in
      subst (IsRead host port) (some_some _ _ p.2) (v4_read port host p.0 small (v4_of-some host p.0 p.1))
]

address_joined : (address : AddressParts) → host_text address ++ 58 ∷ decimal address.port ≡ address_text address
unfolding address_text
address_joined address = ap (λ xs. host_text address ++ 58 ∷ xs) (sym (append-nil (decimal address.port)))

pub address_of-some : (word : List ℕ) (address : AddressParts) → address_of word ≡ Some address → (word ≡ address_text address) × IsPlainAddress address
unfolding address_of
address_of-some word address h =
    let p = bind_some (split_of 58 word) _ address h in
    let q = bind_some (number_below (2 ^ 16) p.0.1) _ address p.2 in
    let port = number_below-some (2 ^ 16) p.0.1 q.0 q.1 in
    let is = address_at-some p.0.0 q.0 address port.1 q.2 in
    (rejoin 58 word p.0.0 p.0.1 _ _ (split_joined 58 word p.0 p.1) is.host_is (port.0 ∙ ap decimal (sym is.port_is)) ∙ address_joined address, is.address_is)

-- ---- the text of an address is read

digit_not : (b x : ℕ) → 58 ≤ b → IsDigit x → x ≢ b
digit_not b x high is e = let top = is.1 in absurd (omega arith)

digit_not_low : (b x : ℕ) → b < 48 → IsDigit x → x ≢ b
digit_not_low b x low is e = let bottom = is.0 in absurd (omega arith)

lacks_high : (b n : ℕ) → 58 ≤ b → n < 2 ^ 64 → Lacks b (decimal n)
lacks_high b n high fits = each_is IsDigit (λ x. x ≢ b) (λ x is. digit_not b x high is) (decimal n) (each_decimal n fits)

pub lacks_low : (b n : ℕ) → b < 48 → n < 2 ^ 64 → Lacks b (decimal n)
lacks_low b n low fits = each_is IsDigit (λ x. x ≢ b) (λ x is. digit_not_low b x low is) (decimal n) (each_decimal n fits)

lower_not : (b x : ℕ) → is_lower_digit b ≡ false → is_lower_digit x ≡ true → x ≢ b
lower_not b x bad good e = let both : true ≡ false = sym good ∙ ap is_lower_digit e ∙ bad in cc both

pub lacks_encoded : (b : ℕ) (bytes : List ℕ) → is_lower_digit b ≡ false → list_all (λ x. nat_lt x 256) bytes ≡ true → Lacks b (encode_lower bytes)
lacks_encoded b bytes bad fits = each_is (λ x. is_lower_digit x ≡ true) (λ x. x ≢ b) (λ x good. lower_not b x bad good) (encode_lower bytes) (each_passes is_lower_digit (encode_lower bytes) (lower_encoded bytes fits))

pub v4_of-text : (a b c d : ℕ) → a < 256 → b < 256 → c < 256 → d < 256 → v4_of (v4_host_text ((a ∷ b ∷ c ∷ d ∷ []) ++ replicate 12 0)) ≡ Some (a ∷ b ∷ c ∷ d ∷ [])
unfolding v4_of
v4_of-text a b c d ha hb hc hd =
    let lacks_a = lacks_low 46 a (omega arith) (omega arith) in
    let lacks_b = lacks_low 46 b (omega arith) (omega arith) in
    let lacks_c = lacks_low 46 c (omega arith) (omega arith) in
    ap v4_of (sym (v4_joined a b c d))
    ∙ rw (
      split_text 46 (decimal a) _ lacks_a,
      split_text 46 (decimal b) _ lacks_b,
      split_text 46 (decimal c) (decimal d) lacks_c,
      number_below-decimal 256 a (omega arith) ha,
      number_below-decimal 256 b (omega arith) hb,
      number_below-decimal 256 c (omega arith) hc,
      number_below-decimal 256 d (omega arith) hd,
    ) refl

pub v6_of-text : (bytes : List ℕ) → length bytes ≡ 16 → list_all (λ b. nat_lt b 256) bytes ≡ true → v6_of (encode_lower bytes ++ 93 ∷ []) ≡ Some bytes
unfolding v6_of
v6_of-text bytes size fits =
    let long : (length (encode_lower bytes) == 32) ≡ true = eq-eqb _ _ (omega (arith, length-encoded bytes)) in
    rw (split_text 93 (encode_lower bytes) [] (lacks_encoded 93 bytes refl fits), long) (digits_of-encoded bytes fits)

digit_first : (ds rest : List ℕ) → Each IsDigit ds → 0 < length ds → (slice_index (ds ++ rest) 0 == 91) ≡ false
digit_first [] rest is some = absurd (omega arith)
digit_first (d ∷ ds) rest is some = ne_eqb d 91 (digit_not 91 d (omega arith) is.0)

v4_first : (a b c d : ℕ) → a < 256 → (slice_index (v4_host_text ((a ∷ b ∷ c ∷ d ∷ []) ++ replicate 12 0)) 0 == 91) ≡ false
unfolding v4_host_text
v4_first a b c d small = digit_first (decimal a) _ (each_decimal a (omega arith)) (decimal_nonempty a (omega arith))

lacks_colon_v4 : (a b c d : ℕ) → a < 256 → b < 256 → c < 256 → d < 256 → Lacks 58 (v4_host_text ((a ∷ b ∷ c ∷ d ∷ []) ++ replicate 12 0))
lacks_colon_v4 a b c d ha hb hc hd =
    let P : ℕ → Type 0 = λ x. x ≢ 58 in
    let L : (n : ℕ) → n < 256 → Each P (decimal n) = λ n small. lacks_high 58 n (omega arith) (omega arith) in
    let point : 46 ≢ 58 = λ e. cc e in
    subst (Each P) (v4_joined a b c d)
    (each_append P (decimal a) _ (L a ha) (point, each_append P (decimal b) _ (L b hb) (point, each_append P (decimal c) _ (L c hc) (point, L d hd))))

lacks_space_v4 : (a b c d : ℕ) → a < 256 → b < 256 → c < 256 → d < 256 → Lacks 32 (v4_host_text ((a ∷ b ∷ c ∷ d ∷ []) ++ replicate 12 0))
lacks_space_v4 a b c d ha hb hc hd =
    let P : ℕ → Type 0 = λ x. x ≢ 32 in
    let L : (n : ℕ) → n < 256 → Each P (decimal n) = λ n small. lacks_low 32 n (omega arith) (omega arith) in
    let point : 46 ≢ 32 = λ e. cc e in
    subst (Each P) (v4_joined a b c d)
    (each_append P (decimal a) _ (L a ha) (point, each_append P (decimal b) _ (L b hb) (point, each_append P (decimal c) _ (L c hc) (point, L d hd))))

lacks_v6 : (b : ℕ) (bytes : List ℕ) → 91 ≢ b → 93 ≢ b → is_lower_digit b ≡ false → list_all (λ x. nat_lt x 256) bytes ≡ true → Lacks b (v6_host_text bytes)
unfolding v6_host_text
lacks_v6 b bytes left right bad fits = (left, each_append (λ x. x ≢ b) (encode_lower bytes) (93 ∷ []) (lacks_encoded b bytes bad fits) (right, tt))

-- what an address of a script is
data Shape : AddressParts → Type 0 where
  is_v4 : (port a b c d : ℕ) → port < 2 ^ 16 → a < 256 → b < 256 → c < 256 → d < 256 → Shape (v4_address port (a ∷ b ∷ c ∷ d ∷ []))
  is_v6 : (port : ℕ) (bytes : List ℕ) → port < 2 ^ 16 → length bytes ≡ 16 → list_all (λ b. nat_lt b 256) bytes ≡ true → Shape (v6_address port bytes)

four : (port : ℕ) (host : List ℕ) → port < 2 ^ 16 → length host ≡ 16 → drop 4 host ≡ replicate 12 0 → list_all (λ b. nat_lt b 256) host ≡ true → Shape (record { v6 = false; origin = 0; host = host; port = port })
four port [] small size filled fits = absurd (omega arith)
four port (a ∷ []) small size filled fits = absurd (omega arith)
four port (a ∷ b ∷ []) small size filled fits = absurd (omega arith)
four port (a ∷ b ∷ c ∷ []) small size filled fits = absurd (omega arith)
four port (a ∷ b ∷ c ∷ d ∷ rest) small size filled fits =
    let p = and_parts (nat_lt a 256) _ fits in
    let q = and_parts (nat_lt b 256) _ p.1 in
    let r = and_parts (nat_lt c 256) _ q.1 in
    let s = and_parts (nat_lt d 256) _ r.1 in
    let ha : a < 256 = grind (arith, nat_tests, p.0) in
    let hb : b < 256 = grind (arith, nat_tests, q.0) in
    let hc : c < 256 = grind (arith, nat_tests, r.0) in
    let hd : d < 256 = grind (arith, nat_tests, s.0) in
    subst (λ (xs : List ℕ). Shape (record { v6 = false; origin = 0; host = a ∷ b ∷ c ∷ d ∷ xs; port = port })) (sym filled) (is_v4 port a b c d small ha hb hc hd)

shape_by : (v6 : Bool) (port : ℕ) (host : List ℕ) → IsPlainAddress (record { v6 = v6; origin = 0; host = host; port = port }) → Shape (record { v6 = v6; origin = 0; host = host; port = port })
shape_by true port host is = is_v6 port host is.form.port is.form.host is.each
shape_by false port host is = four port host is.form.port is.form.host is.form.filled is.each

shape : (address : AddressParts) → IsPlainAddress address → Shape address
shape address is =
    let e : address ≡ record { v6 = address.v6; origin = 0; host = address.host; port = address.port } = ap (λ (n : ℕ). record { v6 = address.v6; origin = n; host = address.host; port = address.port }) is.origin in
    subst Shape (sym e) (shape_by address.v6 address.port address.host (subst IsPlainAddress e is))

read_v6 : (port : ℕ) (bytes : List ℕ) → port < 2 ^ 16 → length bytes ≡ 16 → list_all (λ b. nat_lt b 256) bytes ≡ true → address_of (v6_host_text bytes ++ 58 ∷ decimal port) ≡ Some (v6_address port bytes)
unfolding address_of address_at v6_host_text
read_v6 port bytes small size fits =
    rw (
      split_text 58 (v6_host_text bytes) (decimal port) (lacks_v6 58 bytes (λ e. cc e) (λ e. cc e) refl fits),
      number_below-decimal (2 ^ 16) port (omega arith) small,
      v6_of-text bytes size fits,
    ) refl

read_v4 : (port a b c d : ℕ) → port < 2 ^ 16 → a < 256 → b < 256 → c < 256 → d < 256 →
    address_of (v4_host_text ((a ∷ b ∷ c ∷ d ∷ []) ++ replicate 12 0) ++ 58 ∷ decimal port) ≡ Some (v4_address port (a ∷ b ∷ c ∷ d ∷ []))
unfolding address_of address_at
read_v4 port a b c d small ha hb hc hd =
    rw (
      split_text 58 (v4_host_text ((a ∷ b ∷ c ∷ d ∷ []) ++ replicate 12 0)) (decimal port) (lacks_colon_v4 a b c d ha hb hc hd),
      number_below-decimal (2 ^ 16) port (omega arith) small,
      v4_first a b c d ha,
      v4_of-text a b c d ha hb hc hd,
    ) refl

read_shape : (address : AddressParts) → Shape address → address_of (host_text address ++ 58 ∷ decimal address.port) ≡ Some address
read_shape address (is_v4 port a b c d small ha hb hc hd) = read_v4 port a b c d small ha hb hc hd
read_shape address (is_v6 port bytes small size fits) = read_v6 port bytes small size fits

pub address_of-text : (address : AddressParts) → IsPlainAddress address → address_of (address_text address) ≡ Some address
address_of-text address is = ap address_of (sym (address_joined address)) ∙ read_shape address (shape address is)

lacks_port : (host : List ℕ) (port : ℕ) → port < 2 ^ 16 → Lacks 32 host → Lacks 32 (host ++ 58 ∷ decimal port)
lacks_port host port small lacks =
    let fits : port < 2 ^ 64 = omega arith in
    each_append (λ x. x ≢ 32) host (58 ∷ decimal port) lacks (λ e. cc e, lacks_low 32 port (omega arith) fits)

pub record HasNoSpace (xs : List ℕ) : Type 0 where
  pub lacks : Lacks 32 xs

-- ---- a host alone

short_host : (a b c d : ℕ) → v4_host_text (a ∷ b ∷ c ∷ d ∷ []) ≡ v4_host_text ((a ∷ b ∷ c ∷ d ∷ []) ++ replicate 12 0)
unfolding v4_host_text
short_host a b c d = refl

pub v4_of-is_host : (word host : List ℕ) → v4_of word ≡ Some host → (word ≡ v4_host_text host) × IsHost host
v4_of-is_host word host h =
    let is = v4_of-some word host h in
    subst (λ (bs : List ℕ). (word ≡ v4_host_text bs) × IsHost bs) (sym is.is) (
      is.text ∙ v4_joined is.a is.b is.c is.d ∙ sym (short_host is.a is.b is.c is.d),
      record {
        size = refl;
        each = and_from _ _ (lt-ltb is.a 256 is.a_fits) (and_from _ _ (lt-ltb is.b 256 is.b_fits) (and_from _ _ (lt-ltb is.c 256 is.c_fits) (and_from _ _ (lt-ltb is.d 256 is.d_fits) refl)));
      },
    )

-- a host of four bytes is read, and there is no space in it
pub record IsHostRead (host : List ℕ) : Type 0 where
  pub read : v4_of (v4_host_text host) ≡ Some host
  pub lacks : Lacks 32 (v4_host_text host)

four_read : (a b c d : ℕ) → a < 256 → b < 256 → c < 256 → d < 256 → IsHostRead (a ∷ b ∷ c ∷ d ∷ [])
four_read a b c d ha hb hc hd = record {
  read = ap v4_of (short_host a b c d) ∙ v4_of-text a b c d ha hb hc hd;
  lacks = subst (Lacks 32) (sym (short_host a b c d)) (lacks_space_v4 a b c d ha hb hc hd);
}

host_by : (host : List ℕ) → length host ≡ 4 → list_all (λ b. nat_lt b 256) host ≡ true → IsHostRead host
host_by [] size fits = absurd (omega arith)
host_by (a ∷ []) size fits = absurd (omega arith)
host_by (a ∷ b ∷ []) size fits = absurd (omega arith)
host_by (a ∷ b ∷ c ∷ []) size fits = absurd (omega arith)
host_by (a ∷ b ∷ c ∷ d ∷ []) size fits =
    let p = and_parts (nat_lt a 256) _ fits in
    let q = and_parts (nat_lt b 256) _ p.1 in
    let r = and_parts (nat_lt c 256) _ q.1 in
    let s = and_parts (nat_lt d 256) _ r.1 in
    four_read a b c d (grind (arith, nat_tests, p.0)) (grind (arith, nat_tests, q.0)) (grind (arith, nat_tests, r.0)) (grind (arith, nat_tests, s.0))
host_by (a ∷ b ∷ c ∷ d ∷ e ∷ rest) size fits = absurd (omega arith)

pub host_read : (host : List ℕ) → IsHost host → IsHostRead host
host_read host is = host_by host is.size is.each

no_space_v4 : (port a b c d : ℕ) → port < 2 ^ 16 → a < 256 → b < 256 → c < 256 → d < 256 → HasNoSpace (v4_host_text ((a ∷ b ∷ c ∷ d ∷ []) ++ replicate 12 0) ++ 58 ∷ decimal port)
no_space_v4 port a b c d small ha hb hc hd = record { lacks = lacks_port (v4_host_text ((a ∷ b ∷ c ∷ d ∷ []) ++ replicate 12 0)) port small (lacks_space_v4 a b c d ha hb hc hd) }

no_space_v6 : (port : ℕ) (bytes : List ℕ) → port < 2 ^ 16 → list_all (λ b. nat_lt b 256) bytes ≡ true → HasNoSpace (v6_host_text bytes ++ 58 ∷ decimal port)
no_space_v6 port bytes small fits = record { lacks = lacks_port (v6_host_text bytes) port small (lacks_v6 32 bytes (λ e. cc e) (λ e. cc e) refl fits) }

no_space : (address : AddressParts) → Shape address → HasNoSpace (host_text address ++ 58 ∷ decimal address.port)
no_space address (is_v4 port a b c d small ha hb hc hd) = no_space_v4 port a b c d small ha hb hc hd
no_space address (is_v6 port bytes small size fits) = no_space_v6 port bytes small fits

pub lacks_address : (address : AddressParts) → IsPlainAddress address → Lacks 32 (address_text address)
lacks_address address is = (subst HasNoSpace (address_joined address) (no_space address (shape address is))).lacks
