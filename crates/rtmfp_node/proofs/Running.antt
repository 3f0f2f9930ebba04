-- Runs, turn by turn.
use Rattle.std.proofs.Common.{◌≡◌, ◌≢◌, inl, inr, ℕ, ◌+◌, ◌<◌, List, [], ◌++◌, drop, take, length, refl, sym, ap, ◌∙◌, subst, Option, add-one, arith}
use Rattle.identity.specs.Certificates.{IsCertificate}
use Rattle.rtmfp_host.specs.Faults.{Rose}
use Rattle.rtmfp_host.specs.Linking.{LinkSeen, Calls}
use Rattle.rtmfp_host.specs.Ticking.{Clock}
use Rattle.rtmfp_host.specs.Drawing.{EntropySeen, next_block}
use Rattle.rtmfp_host.specs.Seen.{SinkSeen}
use Rattle.rtmfp_host.specs.declared.link.LinkCall.TheVariants.{Bind}
use Rattle.endpoint_model.specs.Event.{Event, Setup}
use Rattle.endpoint_model.specs.State.{State, fresh}
use Rattle.endpoint_model.specs.Log.{StandsFor}
use Rattle.endpoint_laws.specs.Laws.{AreCalls, IsSetup}
use Rattle.endpoint_laws.proofs.Logged.{every_log_is_lawful}
use Rattle.rtmfp_words.specs.Node.{Serving}
use Rattle.rtmfp_node.specs.declared.served.Served.{Served}
use Rattle.rtmfp_node.specs.declared.served.Served.TheVariants.{Done, Memory, LinkFault, SinkFault, EntropyFault}
use Rattle.rtmfp_node.specs.Outside.{Counted, Outside, PassesOn, outside, Told, Leaves}
use Rattle.rtmfp_node.specs.Events.{ExtendsBy}
use Rattle.rtmfp_node.specs.Reached.{Reached, at_first, reached_after}
use Rattle.rtmfp_node.specs.Turn.{Turn, TurnZero, Turns, after_bind, head_of, instance_in, setup_of}
use Rattle.rtmfp_node.specs.Cut.{CutAtZero, CutBy}
use Rattle.rtmfp_node.specs.Whole.{CutAtStart, CutRun, Ends, Ran}
use Rattle.rtmfp_node.specs.Acting.{Drew, DrewSome, TurnDone, TurnEnds, TurnsCut, TurnsDone, TurnsEnd, ZeroDone, ZeroEnds}
use Rattle.rtmfp_node.proofs.Acts.{calls_sized, extends_more, extends_none, reached_more}
use Rattle.rtmfp_node.proofs.Told.{by_after, by_call, by_draw, by_leaves, by_none, by_then, leaves_map}
use Rattle.rtmfp_node.proofs.Turning.{undrawn}

-- ---- turns

pub turns_none : (v : Serving) (far : Reached) (s : State) (o : Outside) → TurnsDone v 0 far s s far o o
turns_none v far s o = record {
  log = [];
  stands = extends_none s;
  sized = tt;
  reached = refl;
  leaves = by_leaves (λ x y. Turns v 0 far x y []) by_none (λ x h. (refl, refl));
}

pub turns_more : (v : Serving) (n : ℕ) (far middle later : Reached) (s t u : State) (a b c : Outside) → TurnsDone v n far s t middle a b → TurnDone v (n + 1) middle t u later b c → TurnsDone v (n + 1) far s u later a c
turns_more v n far middle later s t u a b c p q = record {
  log = p.log ++ q.log;
  stands = extends_more s t u p.log q.log p.stands q.stands;
  sized = calls_sized p.log q.log p.sized q.sized;
  reached = q.reached ∙ ap (λ (k : Reached). reached_after k q.log) p.reached ∙ reached_more far p.log q.log;
  leaves = record {
    back = λ now tells.
        let two = q.leaves.back now tells in
        let one = p.leaves.back two.0 two.1 in
        let last = subst (λ (k : Reached). Turn v (n + 1) k two.0 now q.log) p.reached two.2 in
        (one.0, one.1, subst (λ k. Turns v k far one.0 now (p.log ++ q.log)) (sym (add-one n)) (two.0, p.log, q.log, one.2, last, refl));
  };
}

turns_cut : (r : Served) (v : Serving) (n : ℕ) (far middle : Reached) (s t : State) (a b c : Outside) → n < v.turns → TurnsDone v n far s t middle a b → Leaves (CutBy r v (n + 1) middle t) b c →
    Leaves (TurnsCut r v far s) a c
turns_cut r v n far middle s t a b c fewer p q = record {
  back = λ now tells.
      let two = q.back now tells in
      let one = p.leaves.back two.0 two.1 in (
        one.0,
        one.1,
        record {
          turns = n;
          fewer = fewer;
          middle = two.0;
          log = p.log;
          left = t;
          whole = one.2;
          stands = p.stands;
          sized = p.sized;
          cut = subst (λ (k : Reached). CutBy r v (n + 1) k t two.0 now) p.reached two.2;
        },
      );
}

pub turns_stopped : (r : Served) (v : Serving) (n : ℕ) (far middle later last : Reached) (s t u w : State) (a b c : Outside) → r ≢ Done → n < v.turns → TurnsDone v n far s t middle a b →
    TurnEnds r v (n + 1) middle t u later b c → TurnsEnd r v far s w last a c
turns_stopped Done v n far middle later last s t u w a b c other fewer p q = absurd (other refl)
turns_stopped Memory v n far middle later last s t u w a b c other fewer p q = turns_cut Memory v n far middle s t a b c fewer p q
turns_stopped LinkFault v n far middle later last s t u w a b c other fewer p q = turns_cut LinkFault v n far middle s t a b c fewer p q
turns_stopped SinkFault v n far middle later last s t u w a b c other fewer p q = turns_cut SinkFault v n far middle s t a b c fewer p q
turns_stopped EntropyFault v n far middle later last s t u w a b c other fewer p q = turns_cut EntropyFault v n far middle s t a b c fewer p q

pub turn_done : (r : Served) (v : Serving) (turn : ℕ) (far later : Reached) (s t : State) (a b : Outside) → r ≡ Done → TurnEnds r v turn far s t later a b → TurnDone v turn far s t later a b
turn_done r v turn far later s t a b is p = subst (λ (k : Served). TurnEnds k v turn far s t later a b) is p

pub zero_is_done : (r : Served) (v : Serving) (head : List ℕ) (later : Reached) (s t : State) (a b : Outside) → r ≡ Done → ZeroEnds r v head s t later a b → ZeroDone v head s t later a b
zero_is_done r v head later s t a b is p = subst (λ (k : Served). ZeroEnds k v head s t later a b) is p

pub zero_as : (v : Serving) (head text : List ℕ) (later : Reached) (s t : State) (a b : Outside) → head ≡ text → ZeroDone v head s t later a b → ZeroDone v text s t later a b
zero_as v head text later s t a b same zero = subst (λ xs. ZeroDone v xs s t later a b) same zero

-- ---- the whole run

-- turn 0 and some turns, after the first draw and the bind
abbrev ran_of : (v : Serving) (n : ℕ) (block : List ℕ) (s t u : State) (first log : List Event) (x opened y : Told) → IsSetup (setup_of v block) → StandsFor (setup_of v block) [] s → block ≡ next_block x.blocks →
    ExtendsBy s t first → ExtendsBy t u log → AreCalls first → AreCalls log → TurnZero v (head_of v block) (after_bind v x) opened first → Turns v n (reached_after at_first first) opened y log → Ran v n x y
ran_of v n block s t u first log x opened y is begins same one two sized_one sized_two zero others =
    let setup : setup_of v block ≡ setup_of v (next_block x.blocks) = ap (setup_of v) same in
    let stands = subst (λ (k : Setup). StandsFor k (first ++ log) u) setup (extends_more s t u first log one two (setup_of v block) [] begins) in record {
      log = first ++ log;
      state = u;
      run = record { opened = opened; first = first; later = log; turn_zero = subst (λ (b : List ℕ). TurnZero v (head_of v b) (after_bind v x) opened first) same zero; others = others; whole = refl };
      stands = stands;
      lawful = λ secrets knows.
          every_log_is_lawful secrets (setup_of v (next_block x.blocks)) (first ++ log) u knows (subst (λ (k : Setup). IsSetup k) setup is) (calls_sized first log sized_one sized_two) stands;
    }

-- the first draw and the bind, and then what leaves this
begins_with : (P : Told → Told → Type 0) (v : Serving) (block : List ℕ) (l l1 : LinkSeen) (c : Option Clock) (b b1 : EntropySeen) (k : SinkSeen) (o : Outside) → Drew b.blocks b1.blocks block → Calls l.line l1.line (Bind v.bind) →
    Leaves P (outside l1 c b1 k) o → Leaves (λ x y. (block ≡ next_block x.blocks) × P (after_bind v x) y) (outside l c b k) o
begins_with P v block l l1 c b b1 k o drew bound rest =
    leaves_map (by_after (by_then (by_draw block l c b b1 k drew) (by_call (Bind v.bind) l l1 c b1 k bound)) rest) (λ x y f. (f.0.0, f.1))

only_bound : (v : Serving) (block : List ℕ) (l l1 : LinkSeen) (c : Option Clock) (b b1 : EntropySeen) (k : SinkSeen) → Drew b.blocks b1.blocks block → Calls l.line l1.line (Bind v.bind) →
    Leaves (λ x y. y ≡ after_bind v x) (outside l c b k) (outside l1 c b1 k)
only_bound v block l l1 c b b1 k drew bound =
    by_leaves (λ x y. y ≡ after_bind v x) (by_then (by_draw block l c b b1 k drew) (by_call (Bind v.bind) l l1 c b1 k bound)) (λ x f. refl)

-- turn 0 was cut
start_cut : (r : Served) (v : Serving) (block : List ℕ) (x y : Told) → block ≡ next_block x.blocks → CutAtZero r v (head_of v block) (fresh (setup_of v block)) (after_bind v x) y → CutAtStart r v x y
start_cut Done v block x y same cut = absurd cut
start_cut Memory v block x y same cut = inr (subst (λ k. CutAtZero Memory v (head_of v k) (fresh (setup_of v k)) (after_bind v x) y) same cut)
start_cut LinkFault v block x y same cut = absurd cut
start_cut SinkFault v block x y same cut = subst (λ k. CutAtZero SinkFault v (head_of v k) (fresh (setup_of v k)) (after_bind v x) y) same cut
start_cut EntropyFault v block x y same cut = inr cut

zero_cut_run : (r : Served) (v : Serving) (block : List ℕ) (l l1 : LinkSeen) (c : Option Clock) (b b1 : EntropySeen) (k : SinkSeen) (o : Outside) → Drew b.blocks b1.blocks block → Calls l.line l1.line (Bind v.bind) →
    Leaves (CutAtZero r v (head_of v block) (fresh (setup_of v block))) (outside l1 c b1 k) o → Leaves (CutRun r v) (outside l c b k) o
zero_cut_run r v block l l1 c b b1 k o drew bound cut =
    leaves_map (begins_with (CutAtZero r v (head_of v block) (fresh (setup_of v block))) v block l l1 c b b1 k o drew bound cut) (λ x y f. inl (start_cut r v block x y f.0 f.1))

zero_cut_as : (r : Served) (v : Serving) (head text : List ℕ) (s t : State) (a b : Outside) → head ≡ text → s ≡ t → Leaves (CutAtZero r v head s) a b → Leaves (CutAtZero r v text t) a b
zero_cut_as r v head text s t a b same is cut = subst (λ (z : State). Leaves (CutAtZero r v text z) a b) is (subst (λ xs. Leaves (CutAtZero r v xs s) a b) same cut)

pub stopped_at_zero : (r : Served) (v : Serving) (block head : List ℕ) (later : Reached) (s t : State) (l l1 : LinkSeen) (c : Option Clock) (b b1 : EntropySeen) (k : SinkSeen) (o : Outside) → r ≢ Done → Drew b.blocks b1.blocks block →
    Calls l.line l1.line (Bind v.bind) → s ≡ fresh (setup_of v block) → head ≡ head_of v block → ZeroEnds r v head s t later (outside l1 c b1 k) o → Ends r v (outside l c b k) o
stopped_at_zero Done v block head later s t l l1 c b b1 k o other drew bound is same cut = absurd (other refl)
stopped_at_zero Memory v block head later s t l l1 c b b1 k o other drew bound is same cut =
    zero_cut_run Memory v block l l1 c b b1 k o drew bound (zero_cut_as Memory v head (head_of v block) s (fresh (setup_of v block)) (outside l1 c b1 k) o same is cut)
stopped_at_zero LinkFault v block head later s t l l1 c b b1 k o other drew bound is same cut =
    zero_cut_run LinkFault v block l l1 c b b1 k o drew bound (zero_cut_as LinkFault v head (head_of v block) s (fresh (setup_of v block)) (outside l1 c b1 k) o same is cut)
stopped_at_zero SinkFault v block head later s t l l1 c b b1 k o other drew bound is same cut =
    zero_cut_run SinkFault v block l l1 c b b1 k o drew bound (zero_cut_as SinkFault v head (head_of v block) s (fresh (setup_of v block)) (outside l1 c b1 k) o same is cut)
stopped_at_zero EntropyFault v block head later s t l l1 c b b1 k o other drew bound is same cut =
    zero_cut_run EntropyFault v block l l1 c b b1 k o drew bound (zero_cut_as EntropyFault v head (head_of v block) s (fresh (setup_of v block)) (outside l1 c b1 k) o same is cut)

-- ---- all the turns, or some of them

module _ (v : Serving) (block : List ℕ) (far : Reached) (s t : State) (l l1 : LinkSeen) (c : Option Clock) (b b1 : EntropySeen) (k : SinkSeen) (opened o : Outside)
    (is : IsSetup (setup_of v block)) (begins : StandsFor (setup_of v block) [] s) (drew : Drew b.blocks b1.blocks block) (bound : Calls l.line l1.line (Bind v.bind))
    (zero : ZeroDone v (head_of v block) s t far (outside l1 c b1 k) opened) where
  ran_whole : (later : Reached) (u : State) → TurnsDone v v.turns far t u later opened o → Leaves (Ran v v.turns) (outside l c b k) o
  ran_whole later u all =
      leaves_map
      (begins_with (λ x y. (middle : Told) × TurnZero v (head_of v block) x middle zero.log × Turns v v.turns far middle y all.log) v block l l1 c b b1 k o drew bound (record {
        back = λ now tells.
            let two = all.leaves.back now tells in
            let one = zero.leaves.back two.0 two.1 in
            (one.0, one.1, (two.0, one.2, two.2));
      }))
      (λ x y f.
      ran_of v v.turns block s t u zero.log all.log x f.1.0 y is begins f.0 zero.stands all.stands zero.sized all.sized f.1.1
      (subst (λ (j : Reached). Turns v v.turns j f.1.0 y all.log) zero.reached f.1.2))

  later_cut : (r : Served) (x y : Told) → block ≡ next_block x.blocks → (middle : Told) → TurnZero v (head_of v block) (after_bind v x) middle zero.log → TurnsCut r v far t middle y → CutRun r v x y
  later_cut r x y same middle first cut =
      inr (record {
        turns = cut.turns;
        fewer = cut.fewer;
        middle = cut.middle;
        ran =
            ran_of v cut.turns block s t cut.left zero.log cut.log x middle cut.middle is begins same zero.stands cut.stands zero.sized cut.sized first
            (subst (λ (j : Reached). Turns v cut.turns j middle cut.middle cut.log) zero.reached cut.whole);
        cut =
            subst (λ (j : Reached). CutBy r v (cut.turns + 1) j cut.left cut.middle y)
            (ap (λ (j : Reached). reached_after j cut.log) zero.reached ∙ reached_more at_first zero.log cut.log) cut.cut;
      })

  ran_cut : (r : Served) → Leaves (TurnsCut r v far t) opened o → Leaves (CutRun r v) (outside l c b k) o
  ran_cut r cut =
      leaves_map
      (begins_with (λ x y. (middle : Told) × TurnZero v (head_of v block) x middle zero.log × TurnsCut r v far t middle y) v block l l1 c b b1 k o drew bound (record {
        back = λ now tells.
            let two = cut.back now tells in
            let one = zero.leaves.back two.0 two.1 in
            (one.0, one.1, (two.0, one.2, two.2));
      }))
      (λ x y f. later_cut r x y f.0 f.1.0 f.1.1 f.1.2)

  pub run_ends : (r : Served) (later : Reached) (u : State) → TurnsEnd r v far t u later opened o → Ends r v (outside l c b k) o
  run_ends Done later u all = ran_whole later u all
  run_ends Memory later u cut = ran_cut Memory cut
  run_ends LinkFault later u cut = ran_cut LinkFault cut
  run_ends SinkFault later u cut = ran_cut SinkFault cut
  run_ends EntropyFault later u cut = ran_cut EntropyFault cut

-- ---- runs that ended before turn 0

pub undrawn_run : (v : Serving) (l : LinkSeen) (c : Option Clock) (b a : EntropySeen) (t : SinkSeen) → DrewSome 0 b.blocks a.blocks → Ends EntropyFault v (outside l c b t) (outside l c a t)
undrawn_run v l c b a t none = leaves_map (undrawn l c b a t none) (λ x y h. inl (inl h))

pub unbound_run : (v : Serving) (block : List ℕ) (l l1 : LinkSeen) (c : Option Clock) (b b1 : EntropySeen) (k : SinkSeen) → Drew b.blocks b1.blocks block → Calls l.line l1.line (Bind v.bind) →
    Ends LinkFault v (outside l c b k) (outside l1 c b1 k)
unbound_run v block l l1 c b b1 k drew bound = leaves_map (only_bound v block l l1 c b b1 k drew bound) (λ x y h. inl h)

pub unbegun_run : (v : Serving) (block : List ℕ) (l l1 : LinkSeen) (c : Option Clock) (b b1 : EntropySeen) (k : SinkSeen) → Drew b.blocks b1.blocks block → Calls l.line l1.line (Bind v.bind) →
    Ends Memory v (outside l c b k) (outside l1 c b1 k)
unbegun_run v block l l1 c b b1 k drew bound = leaves_map (only_bound v block l l1 c b b1 k drew bound) (λ x y h. inl (inl h))

-- ---- counts and what is passed on, from one part of a run to the next

pub counted_later : (r : Served) (a b c : Outside) → Counted Done a b → Counted r b c → Counted r a c
counted_later Done a b c p q = record { link = q.link ∙ p.link; entropy = q.entropy ∙ p.entropy; sink = q.sink ∙ p.sink }
counted_later Memory a b c p q = record { link = q.link ∙ p.link; entropy = q.entropy ∙ p.entropy; sink = q.sink ∙ p.sink }
counted_later LinkFault a b c p q = record { link = subst (λ k. Rose k c.link.faults) p.link q.link; entropy = q.entropy ∙ p.entropy; sink = q.sink ∙ p.sink }
counted_later EntropyFault a b c p q = record { link = q.link ∙ p.link; entropy = subst (λ k. Rose k c.entropy.faults) p.entropy q.entropy; sink = q.sink ∙ p.sink }
counted_later SinkFault a b c p q = record { link = q.link ∙ p.link; entropy = q.entropy ∙ p.entropy; sink = subst (λ k. Rose k c.sink.faults) p.sink q.sink }

pub passed_later : (r : Served) (a b c : Outside) → PassesOn Done a b → PassesOn r b c → PassesOn r a c
passed_later Done a b c p q = λ h. q (p h)
passed_later Memory a b c p q = λ h. q (p h)
passed_later LinkFault a b c p q = λ h. q (p h)
passed_later EntropyFault a b c p q = λ h. q (p h)
passed_later SinkFault a b c p q = tt

pub counted_as : (r : Served) (a b : Outside) → r ≡ Done → Counted r a b → Counted Done a b
counted_as r a b is p = subst (λ (k : Served). Counted k a b) is p

pub passed_as : (r : Served) (a b : Outside) → r ≡ Done → PassesOn r a b → PassesOn Done a b
passed_as r a b is p = subst (λ (k : Served). PassesOn k a b) is p

-- ---- the sizes of what an end is given

pub sized_by : (v : Serving) (block cookie group : List ℕ) → IsCertificate (instance_in v.instance block ++ v.name) → group ≡ v.group → length group ≡ 32 → cookie ≡ take 32 (drop 16 block) → length cookie ≡ 32 →
    IsSetup (setup_of v block)
sized_by v block cookie group cert is long same wide = record {
  cert = cert;
  secret = ap length (sym is) ∙ long;
  cookie_secret = ap length (sym same) ∙ wide;
  sessions = omega arith;
}
