use Rattle.std.proofs.Common.{◌∙◌, ap, cond, nat_eq, sym, true}
use Rattle.indexmap.specs.IndexSet.{contains}
use Rattle.plan_definitions.specs.Modes.{machine_required}
use Rattle.plan_services.specs.Users.{is_refusal}
use Rattle.plan_services.proofs.Using.{among_more, among_same, among_all}
use Rattle.plan_services.proofs.users.refused.Goals as goal
use Rattle.plan_services.proofs.users.refused.Goals.{then-is_refusal+in_ok-insert, else-is_refusal}

pub loop-site-preserved : goal.loop-site-preserved
loop-site-preserved c = λ n. elim c.if-is_refusal.branch [
  | then-is_refusal+in_ok-insert w ↦ ap (λ set. contains nat_eq set n) w.set-is
      ∙ among_more (machine_required c.args.source.now.d.now c.args.source.now.f.now) (is_refusal c.args.source.now.d.now c.args.source.now.f.now) n c.args.sites.now c.loop-site.site-index _ c.loop-site-test.true _ _ (sym c.is_refusal.ensures ∙ w.if-is_refusal.true) (w.in_ok-insert.ensures.updates.0 n ∙ ap (λ m. cond (nat_eq m n) true (contains nat_eq c.loop-site.set n)) w.machine_required.ensures) (c.loop-site.invariant n)
  | else-is_refusal w ↦ ap (λ set. contains nat_eq set n) w.set-is
      ∙ among_same (machine_required c.args.source.now.d.now c.args.source.now.f.now) (is_refusal c.args.source.now.d.now c.args.source.now.f.now) n c.args.sites.now c.loop-site.site-index _ c.loop-site-test.true _ (sym c.is_refusal.ensures ∙ w.if-is_refusal.false) (c.loop-site.invariant n)
]

pub returns : goal.returns
returns c = λ n. among_all (machine_required c.args.source.now.d.now c.args.source.now.f.now) (is_refusal c.args.source.now.d.now c.args.source.now.f.now) n c.args.sites.now c.loop-site.site-index _ c.loop-site-test.false (c.loop-site.invariant n)
