use Rattle.std.proofs.Common.{ℕ, List, [], ◌∷◌, ◌++◌, ◌≡◌, ◌<◌, ◌+◌, ◌∙◌, ap, sym, subst, length}
use Rattle.log_values.specs.declared.log.EndLog.{EndLog}
use Rattle.log_values.specs.Told.{logs_of}
use Rattle.log_verdict.specs.Told.{setups_of}
use Rattle.log_reading.specs.Said.{setup_said}
use Rattle.log_reading.specs.Gathered.{Read, with_log}
use Rattle.log_reading.proofs.Grown.{logs_more, setups_more}
use Rattle.log_reading.proofs.Sound.{sound_log}
use Rattle.log_reading.proofs.gathered.Gathered.enter.Goals as goal

pub invariant_of-self-2 : goal.invariant_of-self-2
invariant_of-self-2 c =
    let put_in : c.put-2.new.items.items ≡ c.self.inside.logs.items ++ c.log_of.result ∷ [] = c.put-2.ensures ∙ ap (λ (logs : List EndLog). logs ++ c.log_of.result ∷ []) c.reserve-2.ensures.same in
    sound_log c.args.name (c.put.ensures ∙ ap (λ (names : List (List ℕ)). names ++ c.args.name ∷ []) c.reserve.ensures.same)
    (logs_more c.self.inside.logs.items c.put-2.new.items.items c.log_of.result [] put_in c.log_of.ensures.events)
    (subst (λ (r : Read). r.count < 100000) (sym c.self.view_is) c.requires.few)
    (subst (λ (r : Read). length r.names < 1024) (sym c.self.view_is) c.requires.ends) c.self.invariant

pub returns-clause-ok : goal.returns-clause-ok
returns-clause-ok c =
    let put_in : c.put-2.new.items.items ≡ c.self.inside.logs.items ++ c.log_of.result ∷ [] = c.put-2.ensures ∙ ap (λ (logs : List EndLog). logs ++ c.log_of.result ∷ []) c.reserve-2.ensures.same in
    let named : c.put.new.items.items ≡ c.self.inside.names.items ++ c.args.name ∷ [] = c.put.ensures ∙ ap (λ (names : List (List ℕ)). names ++ c.args.name ∷ []) c.reserve.ensures.same in
    let headed : c.put-3.new.items.items ≡ c.self.inside.heads.items ++ (c.self.inside.count + 1) ∷ [] = c.put-3.ensures ∙ ap (λ (heads : List ℕ). heads ++ (c.self.inside.count + 1) ∷ []) c.reserve-3.ensures.same in
    let logged = logs_more c.self.inside.logs.items c.put-2.new.items.items c.log_of.result [] put_in c.log_of.ensures.events in
    let given = setups_more c.self.inside.logs.items c.put-2.new.items.items c.log_of.result (setup_said c.args.head) put_in c.log_of.ensures.setup in
    let written : record { names = c.put.new.items.items; setups = setups_of c.put-2.new.items.items; logs = logs_of c.put-2.new.items.items; order = c.self.inside.order.items; last = c.self.inside.last; heads = c.put-3.new.items.items; starts = c.self.inside.starts.items; lines = c.self.inside.lines.items; count = c.self.inside.count + 1 }
    ≡ with_log c.args.name (setup_said c.args.head) (record { names = c.self.inside.names.items; setups = setups_of c.self.inside.logs.items; logs = logs_of c.self.inside.logs.items; order = c.self.inside.order.items; last = c.self.inside.last; heads = c.self.inside.heads.items; starts = c.self.inside.starts.items; lines = c.self.inside.lines.items; count = c.self.inside.count })
    = λ i. record { names = named i; setups = given i; logs = logged i; order = c.self.inside.order.items; last = c.self.inside.last; heads = headed i; starts = c.self.inside.starts.items; lines = c.self.inside.lines.items; count = c.self.inside.count + 1 } in
    written ∙ ap (with_log c.args.name (setup_said c.args.head)) c.self.view_is
