use Rattle.std.proofs.Common.{◌≡◌, ◌+◌, ◌-◌, ◌≤◌, List, [], None, length, ap, sym, ◌∙◌, subst}
use Rattle.rtmfp_forms.specs.Options.{OptionParts, OptionsSpell, options_bytes}
use Rattle.rtmfp_forms.specs.OptionReading.{options_in}
use Rattle.rtmfp_forms.proofs.Lists.{options_in-spelled}
use Rattle.flow_send.specs.declared.waiting.Waiting.{Waiting}
use Rattle.flow_send.specs.Rows.{Row}
use Rattle.flow_send.specs.Sender.{sender_of, Sender, new_sender}
use Rattle.flow_send.specs.Steady.{Steady}
use Rattle.rtmfp_data_chunks.specs.FlowOptions.{flow_options}
use Rattle.flow_send.specs.Flow.{Flow}
use Rattle.flow_send.proofs.Steadies.{steady_new}
use Rattle.flow_send.proofs.Followed.{begin}
use Rattle.flow_send.proofs.Keepings.{begun_marks}
use Rattle.flow_send.proofs.Fitting.{options_size}
use Rattle.flow_send.proofs.sender.FlowSender.new.Goals as goal
use Rattle.flow_send.proofs.sender.FlowSender.new.Goals.{After-new-4}

fresh : (c : After-new-4) → let f = c.args.first in sender_of (f - 1) c.in_ok-new.field-0.rows c.new-3.result None (f - 1) (f - 1) None None 0 ≡ new_sender f
fresh c =
    let f = c.args.first in
    ap (λ (rs : List Row). sender_of (f - 1) rs c.new-3.result None (f - 1) (f - 1) None None 0) c.in_ok-new.ensures.none
    ∙ ap (λ (ws : List Waiting). sender_of (f - 1) [] ws None (f - 1) (f - 1) None None 0) c.new-3.ensures

listed : (c : After-new-4) → options_in c.in_ok-spell_flow_options.field-0.items ≡ flow_options c.args.metadata.now c.args.answers
listed c = options_in-spelled (flow_options c.args.metadata.now c.args.answers) c.in_ok-spell_flow_options.field-0.items c.in_ok-spell_flow_options.ensures

pub invariant_of-result : goal.invariant_of-result
invariant_of-result c = (
  subst Steady (sym (fresh c)) (steady_new c.args.first c.requires.first c.ranges.first.fits),
  (
    subst (λ (os : List OptionParts). OptionsSpell os c.in_ok-spell_flow_options.field-0.items) (sym (listed c)) c.in_ok-spell_flow_options.ensures,
    subst (λ (os : List OptionParts). length (options_bytes os) ≤ 79) (sym (listed c)) (options_size c.args.metadata.now c.args.answers c.answer_len-answer.result c.requires.metadata c.answer_len-answer.ensures),
  ),
  λ none. c.in_ok-new.ensures.room,
  begin c.new-2.result (c.args.first - 1 + 1) c.in_ok-new.field-0.rows c.new-2.ensures.queue c.in_ok-new.ensures.none,
  begun_marks c.new-4.result c.new-3.result (c.args.first - 1 + 1) c.in_ok-new.field-0.rows c.in_ok-new.ensures.none,
)

pub returns : goal.returns
returns c =
    let F : List OptionParts → Sender → Flow = λ os t. record { id = c.args.id; options = os; priority = c.args.priority; sender = t } in
    ap (λ (os : List OptionParts). F os (sender_of (c.args.first - 1) c.in_ok-new.field-0.rows c.new-3.result None (c.args.first - 1) (c.args.first - 1) None None 0)) (listed c) ∙ ap (F (flow_options c.args.metadata.now c.args.answers)) (fresh c)
