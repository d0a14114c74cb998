-- `of_code`: the tests in the rule's order.
use mathlib.Core.Path.{sym, ap}
use native.Mathlib.Omega.{arith}
use Rattle.block.specs.Kinds.{kind_of, paper_kind}
use Rattle.block.proofs.Codes.{other-principal, other_unknown}
use Rattle.block.proofs.Kind.of_code.Goals as goal

pub returns-in-1380273732 : goal.returns-in-1380273732
unfolding kind_of
returns-in-1380273732 c = ap (λ n. paper_kind (kind_of n)) (sym c.in-1380273732.is)

pub returns-in-1413829460 : goal.returns-in-1413829460
unfolding kind_of
returns-in-1413829460 c = ap (λ n. paper_kind (kind_of n)) (sym c.in-1413829460.is)

pub returns-in-1196183362 : goal.returns-in-1196183362
unfolding kind_of
returns-in-1196183362 c = ap (λ n. paper_kind (kind_of n)) (sym c.in-1196183362.is)

pub returns-in-1145132097 : goal.returns-in-1145132097
unfolding kind_of
returns-in-1145132097 c = ap (λ n. paper_kind (kind_of n)) (sym c.in-1145132097.is)

pub returns-in-1145979185 : goal.returns-in-1145979185
unfolding kind_of
returns-in-1145979185 c = ap (λ n. paper_kind (kind_of n)) (sym c.in-1145979185.is)

pub returns-in_default : goal.returns-in_default
returns-in_default c = ap paper_kind (sym (other-principal c.args.code (λ e. omega (arith, e)) (λ e. omega (arith, e)) (λ e. omega (arith, e)) (λ e. omega (arith, e)) (λ e. omega (arith, e)) (sym c.if-is_principal.ensures)))

pub returns-in_default-2 : goal.returns-in_default-2
returns-in_default-2 c = ap paper_kind (sym (other_unknown c.args.code (λ e. omega (arith, e)) (λ e. omega (arith, e)) (λ e. omega (arith, e)) (λ e. omega (arith, e)) (λ e. omega (arith, e)) (sym c.if-is_principal.ensures)))
