-- What was told is traced back, call by call.
use Rattle.std.proofs.Common.{◌≡◌, ℕ, ◌+◌, List, [], ◌∷◌, ◌++◌, drop, refl, sym, ap, ◌∙◌, subst, Option, Some, None, arith}
use Rattle.std.proofs.lemmas.List.{drop-drop}
use Rattle.rtmfp_host.specs.Linking.{Line, LinkSeen, next_given, after_call, after_receive, Calls, Receives}
use Rattle.rtmfp_host.specs.Ticking.{Clock, next_moment, after_moment, Ticks}
use Rattle.rtmfp_host.specs.Drawing.{DrawsFrom, EntropySeen, next_block}
use Rattle.rtmfp_host.specs.declared.entropy.Drawn.TheVariants.{Failed}
use Rattle.rtmfp_host.specs.Seen.{SinkSeen}
use Rattle.rtmfp_host.specs.Writing.{Appends}
use Rattle.rtmfp_host.specs.declared.link.Given.{Given}
use Rattle.rtmfp_host.specs.declared.link.LinkCall.{LinkCall}
use Rattle.rtmfp_host.specs.declared.link.LinkCall.TheVariants.{Receive}
use Rattle.rtmfp_node.specs.Outside.{Outside, outside, Told, Tells, Leaves}
use Rattle.rtmfp_node.specs.Acting.{Drew, DrewSome, CallsAll}

-- What is told in the end is this function of what was told, of which this holds.
pub record By (f : Told → Told) (F : Told → Type 0) (before after : Outside) : Type 0 where
  pub trace : (now : Told) → Tells after now → (was : Told) × Tells before was × (now ≡ f was) × F was

pub by_none : {o : Outside} → By (λ x. x) (λ x. Unit {0}) o o
by_none = record { trace = λ now tells. (now, tells, refl, tt) }

pub by_then : {f g : Told → Told} {F G : Told → Type 0} {a b c : Outside} → By f F a b → By g G b c → By (λ x. g (f x)) (λ x. F x × G (f x)) a c
by_then {f} {g} {F} {G} {a} {b} {c} p q = record {
  trace = λ now tells.
      let two = q.trace now tells in
      let one = p.trace two.0 two.1 in
      (one.0, one.1, two.2 ∙ ap g one.2, (one.3, subst G one.2 two.3));
}

pub by_leaves : {f : Told → Told} {F : Told → Type 0} {a b : Outside} (R : Told → Told → Type 0) → By f F a b → ((x : Told) → F x → R x (f x)) → Leaves R a b
by_leaves {f} {F} {a} {b} R p h = record {
  back = λ now tells.
      let one = p.trace now tells in
      (one.0, one.1, subst (R one.0) (sym one.2) (h one.0 one.3));
}

pub leaves_map : {P Q : Told → Told → Type 0} {a b : Outside} → Leaves P a b → ((x y : Told) → P x y → Q x y) → Leaves Q a b
leaves_map {P} {Q} {a} {b} p h = record { back = λ now tells. let one = p.back now tells in (one.0, one.1, h one.0 now one.2) }

-- something told, and then what leaves this
pub by_after : {f : Told → Told} {F : Told → Type 0} {P : Told → Told → Type 0} {a b c : Outside} → By f F a b → Leaves P b c → Leaves (λ x y. F x × P (f x) y) a c
by_after {f} {F} {P} {a} {b} {c} p q = record {
  back = λ now tells.
      let two = q.back now tells in
      let one = p.trace two.0 two.1 in
      (one.0, one.1, (one.3, subst (λ k. P k now) one.2 two.2));
}

-- ---- single calls

abbrev pub with_blocks : Told → List (List ℕ) → Told
with_blocks x blocks = record { line = x.line; clock = x.clock; blocks = blocks; text = x.text }

abbrev pub with_clock : Told → Clock → Told
with_clock x clock = record { line = x.line; clock = clock; blocks = x.blocks; text = x.text }

abbrev pub with_line : Told → Line → Told
with_line x line = record { line = line; clock = x.clock; blocks = x.blocks; text = x.text }

some_same : {A : Type 0} (x y : A) → ◌≡◌ {A = Option A} (Some x) (Some y) → x ≡ y
some_same x y e = cc (e)

pub drew_back : (b c : Option (List (List ℕ))) (block : List ℕ) (now : List (List ℕ)) → Drew b c block → c ≡ Some now →
    (was : List (List ℕ)) × (b ≡ Some was) × (block ≡ next_block was) × (now ≡ drop 1 was)
drew_back b None block now h e = absurd (cc)
drew_back None (Some x) block now h e = absurd h
drew_back (Some was) (Some x) block now h e = let same : x ≡ now = cc (e) in (was, refl, h.0, sym same ∙ h.1)

pub by_draw : (block : List ℕ) (l : LinkSeen) (c : Option Clock) (b a : EntropySeen) (t : SinkSeen) → Drew b.blocks a.blocks block →
    By (λ x. with_blocks x (drop 1 x.blocks)) (λ x. block ≡ next_block x.blocks) (outside l c b t) (outside l c a t)
by_draw block l c b a t drew = record {
  trace = λ now tells.
      let p = drew_back b.blocks a.blocks block now.blocks drew tells.blocks in (
        with_blocks now p.0,
        record { line = tells.line; clock = tells.clock; blocks = p.1; text = tells.text },
        ap (with_blocks now) p.3,
        p.2,
      );
}

ticks_back : (b c : Option Clock) (moment : ℕ) (now : Clock) → Ticks b c moment → c ≡ Some now → (was : Clock) × (b ≡ Some was) × (moment ≡ next_moment was) × (now ≡ after_moment was)
ticks_back b None moment now h e = absurd (cc)
ticks_back None (Some x) moment now h e = absurd h
ticks_back (Some was) (Some x) moment now h e = let same : x ≡ now = cc (e) in (was, refl, h.0, sym same ∙ h.1)

pub by_moment : (moment : ℕ) (l : LinkSeen) (c d : Option Clock) (b : EntropySeen) (t : SinkSeen) → Ticks c d moment →
    By (λ x. with_clock x (after_moment x.clock)) (λ x. moment ≡ next_moment x.clock) (outside l c b t) (outside l d b t)
by_moment moment l c d b t ticks = record {
  trace = λ now tells.
      let p = ticks_back c d moment now.clock ticks tells.clock in (
        with_clock now p.0,
        record { line = tells.line; clock = p.1; blocks = tells.blocks; text = tells.text },
        ap (with_clock now) p.3,
        p.2,
      );
}

receives_back : (b c : Option Line) (until : ℕ) (given : Given) (now : Line) → Receives b c until (Some given) → c ≡ Some now →
    (was : Line) × (b ≡ Some was) × (given ≡ next_given was.left) × (now ≡ record { left = drop 1 was.left; calls = was.calls ++ Receive until ∷ [] })
receives_back b None until given now h e = absurd (cc)
receives_back None (Some x) until given now h e = absurd h
receives_back (Some was) (Some x) until given now h e = let same : x ≡ now = cc (e) in (was, refl, h.0, sym same ∙ h.1)

abbrev pub after_given : ℕ → Line → Line
after_given until line = record { left = drop 1 line.left; calls = line.calls ++ Receive until ∷ [] }

pub by_receive : (given : Given) (until : ℕ) (l m : LinkSeen) (c : Option Clock) (b : EntropySeen) (t : SinkSeen) → Receives l.line m.line until (Some given) →
    By (λ x. with_line x (after_given until x.line)) (λ x. given ≡ next_given x.line.left) (outside l c b t) (outside m c b t)
by_receive given until l m c b t receives = record {
  trace = λ now tells.
      let p = receives_back l.line m.line until given now.line receives tells.line in (
        with_line now p.0,
        record { line = p.1; clock = tells.clock; blocks = tells.blocks; text = tells.text },
        ap (with_line now) p.3,
        p.2,
      );
}

heard_back : (b c : Option Line) (until : ℕ) (given : Option Given) (now : Line) → Receives b c until given → c ≡ Some now → (was : Line) × (b ≡ Some was) × (now ≡ after_receive was given until)
heard_back b None until given now h e = absurd (cc)
heard_back None (Some x) until given now h e = absurd h
heard_back (Some was) (Some x) until given now h e = let same : x ≡ now = cc (e) in (was, refl, sym same ∙ h.1)

-- a receive, whatever it gave
pub by_heard : (given : Option Given) (until : ℕ) (l m : LinkSeen) (c : Option Clock) (b : EntropySeen) (t : SinkSeen) → Receives l.line m.line until given →
    By (λ x. with_line x (after_receive x.line given until)) (λ x. Unit {0}) (outside l c b t) (outside m c b t)
by_heard given until l m c b t receives = record {
  trace = λ now tells.
      let p = heard_back l.line m.line until given now.line receives tells.line in (
        with_line now p.0,
        record { line = p.1; clock = tells.clock; blocks = tells.blocks; text = tells.text },
        ap (with_line now) p.2,
        tt,
      );
}

calls_back : (b c : Option Line) (calls : List LinkCall) (now : Line) → CallsAll b c calls → c ≡ Some now → (was : Line) × (b ≡ Some was) × (now ≡ record { left = was.left; calls = was.calls ++ calls })
calls_back b None calls now h e = absurd (cc)
calls_back None (Some x) calls now h e = absurd h
calls_back (Some was) (Some x) calls now h e = let same : x ≡ now = cc (e) in (was, refl, sym same ∙ h)

-- what is sent and written: these calls of the link, and this text
pub record Emitted (more : List LinkCall) (written : List ℕ) (x y : Told) : Type 0 where
  pub left : y.line.left ≡ x.line.left
  pub calls : y.line.calls ≡ x.line.calls ++ more
  pub clock : y.clock ≡ x.clock
  pub blocks : y.blocks ≡ x.blocks
  pub text : Appends x.text y.text written

pub by_emit : (calls : List LinkCall) (text : List ℕ) (l m : LinkSeen) (c : Option Clock) (b : EntropySeen) (t u : SinkSeen) → CallsAll l.line m.line calls → Appends t.written u.written text →
    Leaves (Emitted calls text) (outside l c b t) (outside m c b u)
by_emit calls text l m c b t u called wrote = record {
  back = λ now tells.
      let p = calls_back l.line m.line calls now.line called tells.line in (
        record { line = p.0; clock = now.clock; blocks = now.blocks; text = t.written },
        record { line = p.1; clock = tells.clock; blocks = tells.blocks; text = refl },
        record {
          left = ap (λ (k : Line). k.left) p.2;
          calls = ap (λ (k : Line). k.calls) p.2;
          clock = refl;
          blocks = refl;
          text = subst (λ o. Appends t.written o text) tells.text wrote;
        },
      );
}

bind_back : (b c : Option Line) (call : LinkCall) (now : Line) → Calls b c call → c ≡ Some now → (was : Line) × (b ≡ Some was) × (now ≡ after_call was call)
bind_back b None call now h e = absurd (cc)
bind_back None (Some x) call now h e = absurd h
bind_back (Some was) (Some x) call now h e = let same : x ≡ now = cc (e) in (was, refl, sym same ∙ h)

pub by_call : (call : LinkCall) (l m : LinkSeen) (c : Option Clock) (b : EntropySeen) (t : SinkSeen) → Calls l.line m.line call →
    By (λ x. with_line x (after_call x.line call)) (λ x. Unit {0}) (outside l c b t) (outside m c b t)
by_call call l m c b t called = record {
  trace = λ now tells.
      let p = bind_back l.line m.line call now.line called tells.line in (
        with_line now p.0,
        record { line = p.1; clock = tells.clock; blocks = tells.blocks; text = tells.text },
        ap (with_line now) p.2,
        tt,
      );
}

-- so many draws
some_back : (drawn : ℕ) (b c : Option (List (List ℕ))) (now : List (List ℕ)) → DrewSome drawn b c → c ≡ Some now → (was : List (List ℕ)) × (b ≡ Some was) × (now ≡ drop drawn was)
some_back drawn b None now h e = absurd (cc)
some_back drawn None (Some x) now h e = absurd h
some_back drawn (Some was) (Some x) now h e = let same : x ≡ now = cc (e) in (was, refl, sym same ∙ h)

pub by_drew : (drawn : ℕ) (l : LinkSeen) (c : Option Clock) (b a : EntropySeen) (t : SinkSeen) → DrewSome drawn b.blocks a.blocks →
    By (λ x. with_blocks x (drop drawn x.blocks)) (λ x. Unit {0}) (outside l c b t) (outside l c a t)
by_drew drawn l c b a t drew = record {
  trace = λ now tells.
      let p = some_back drawn b.blocks a.blocks now.blocks drew tells.blocks in (
        with_blocks now p.0,
        record { line = tells.line; clock = tells.clock; blocks = p.1; text = tells.text },
        ap (with_blocks now) p.2,
        tt,
      );
}

pub drew_none : (b : Option (List (List ℕ))) → DrewSome 0 b b
drew_none None = tt
drew_none (Some was) = refl

pub drew_failed : (b a : Option (List (List ℕ))) (block : List ℕ) → DrawsFrom b a Failed block → DrewSome 0 b a
drew_failed b None block h = tt
drew_failed None (Some now) block h = absurd h
drew_failed (Some was) (Some now) block h = h

drew_one : (b a : Option (List (List ℕ))) (block : List ℕ) → Drew b a block → DrewSome 1 b a
drew_one b None block h = tt
drew_one None (Some now) block h = absurd h
drew_one (Some was) (Some now) block h = h.1

drew_then : (j k : ℕ) (b c d : Option (List (List ℕ))) → DrewSome j b c → DrewSome k c d → DrewSome (j + k) b d
drew_then j k b c None p q = tt
drew_then j k b None (Some d) p q = absurd q
drew_then j k None (Some c) (Some d) p q = absurd p
drew_then j k (Some b) (Some c) (Some d) p q = q ∙ ap (drop k) p ∙ drop-drop k j b

pub drew_next : (n : ℕ) (b c d : Option (List (List ℕ))) (block : List ℕ) → DrewSome n b c → Drew c d block → DrewSome (n + 1) b d
drew_next n b c d block some drew = drew_then n 1 b c d some (drew_one c d block drew)

pub drew_no_more : (n : ℕ) (b c d : Option (List (List ℕ))) → DrewSome n b c → DrewSome 0 c d → DrewSome n b d
drew_no_more n b c d some none = let same : n + 0 ≡ n = omega arith in subst (λ k. DrewSome k b d) same (drew_then n 0 b c d some none)
