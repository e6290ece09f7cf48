-- `price::price_of` meets its contract: no step of the sum is larger than its bound. Assumes nothing.
use borrow.Author.Rules.{rules}
use mathlib.Core.Path.{refl}
use Prim.Native.Nat.{◌*◌, ◌≤◌}
use Rattle.store.specs.Prices.{supplement}
use Rattle.store.proofs.Prices.{per_cent_few}
use Rattle.store.proofs.price.price_of.Goals as goal

pub overflow_mul-result : goal.overflow_mul-result
overflow_mul-result c =
    let few : c.args.price * c.args.supplement ≤ 200000000 = per_cent_few _ _ c.requires.0 c.requires.1 in
    search rules

pub overflow_add-result : goal.overflow_add-result
overflow_add-result c =
    let few : c.args.price * c.args.supplement ≤ 200000000 = per_cent_few _ _ c.requires.0 c.requires.1 in
    search rules

pub overflow_add-result-2 : goal.overflow_add-result-2
overflow_add-result-2 c =
    let few : c.args.price * c.args.supplement ≤ 200000000 = per_cent_few _ _ c.requires.0 c.requires.1 in
    search rules

pub overflow_cast-result : goal.overflow_cast-result
overflow_cast-result c =
    let few : c.args.price * c.args.supplement ≤ 200000000 = per_cent_few _ _ c.requires.0 c.requires.1 in
    search rules

pub returns : goal.returns
unfolding supplement
returns c = refl
