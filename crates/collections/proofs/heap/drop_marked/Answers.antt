use Rattle.std.proofs.Common.{◌≡◌, filter, not, sym, ◌∙◌, ap, arith, rules}
use Rattle.std.proofs.lemmas.Fn.{filter_same, always_returns_same}
use Rattle.collections.specs.Holders.{bag_of, marks_of, pair_of}
use Rattle.collections.proofs.Sifts.{in_order}
use Rattle.collections.proofs.Holders.{bag_of-reordered, bag_of-kept, marks_of-reordered}
use Rattle.collections.proofs.Holders.{marks_of-kept, none_marked}
use Rattle.collections.proofs.heap.drop_marked.Goals as goal

left : (c : goal.After-sort_unstable_by_key) →
    c.retain.new.self.items ≡ filter (λ h. not h.marked) c.args.holders.now.items
left c = filter_same _ (λ h. not h.marked) _ (λ x b f' k. search rules) _ _
    c.retain.ensures.filtered

pub returns-clause-kept : goal.returns-clause-kept
returns-clause-kept c =
    let new = c.sort_unstable_by_key.new.self.items in
    let none : marks_of new ≡ 0 =
    marks_of-reordered c.retain.new.self.items new c.sort_unstable_by_key.ensures.permutation ∙
    ap marks_of (left c) ∙ marks_of-kept c.args.holders.now.items in
    record {
      heap = in_order new (c.sort_unstable_by_key.ensures.sorted pair_of
          (always_returns_same _ (λ a r. r ≡ pair_of a.0.now) _ (λ a r f' k. search rules)));
      root = none_marked new 0 none;
      marks = sym none;
      fewer = omega arith;
    }

pub returns-clause-bag : goal.returns-clause-bag
returns-clause-bag c =
    bag_of-reordered c.retain.new.self.items c.sort_unstable_by_key.new.self.items
    c.sort_unstable_by_key.ensures.permutation ∙
    ap bag_of (left c) ∙ bag_of-kept c.args.holders.now.items
