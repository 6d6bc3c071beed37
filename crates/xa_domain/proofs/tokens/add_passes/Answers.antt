use Rattle.std.proofs.Common.{◌≡◌, List, Option, Some, length, get_or, set, sym, ◌∙◌, ap, subst}
use Rattle.std.specs.Prelude.{IsSome}
use Rattle.std.proofs.lemmas.List.Elements.{All-pop}
use Rattle.xa_domain.proofs.Adding.{Pass, Passes, AreAddedSo, none_added, added_more, next_space, all_added}
use Rattle.xa_domain.proofs.tokens.add_passes.Goals as goal

pub loop-pass-init : goal.loop-pass-init
loop-pass-init c = record { added = none_added c.args.passes.items c.args.all.now.items c.requires.count; there = c.requires.there }

pub add_pass-requires : goal.add_pass-requires
add_pass-requires c =
    let now : List Passes = c.loop-pass.all.items in
    let its : Passes = c.index_mut.result.now in
    let place : c.len.result ≡ length c.pop.new.self.items = c.len.ensures ∙ c.pop.new.self.ok.0 in
    let at : its ≡ get_or now (length c.pop.new.self.items) its = c.index_mut.ensures.value ∙ ap (λ i. get_or now i its) place in
    record {
      there = (All-pop IsSome c.loop-pass.passes.items c.pop.new.self.items (Some c.in-Some.pass) c.in-Some.ensures.items c.loop-pass.invariant.there).1;
      space = next_space c.args.passes.items c.loop-pass.passes.items c.pop.new.self.items c.in-Some.pass c.args.all.now.items now its c.loop-pass.invariant.added c.in-Some.ensures.items at c.requires.space;
    }

pub loop-pass-preserved : goal.loop-pass-preserved
loop-pass-preserved c =
    let now : List Passes = c.loop-pass.all.items in
    let its : Passes = c.index_mut.result.now in
    let its' : Passes = c.add_pass.new.all in
    let left' : List (Option Pass) = c.pop.new.self.items in
    let place : c.len.result ≡ length left' = c.len.ensures ∙ c.pop.new.self.ok.0 in
    let at : its ≡ get_or now (length left') its = c.index_mut.ensures.value ∙ ap (λ i. get_or now i its) place in
    record {
      added = subst (λ i. AreAddedSo c.args.passes.items left' c.args.all.now.items (set now i its')) (sym place)
          (added_more c.args.passes.items c.loop-pass.passes.items left' c.in-Some.pass c.args.all.now.items now its its' c.loop-pass.invariant.added c.in-Some.ensures.items at c.add_pass.ensures.added c.add_pass.ensures.capacity);
      there = (All-pop IsSome c.loop-pass.passes.items left' (Some c.in-Some.pass) c.in-Some.ensures.items c.loop-pass.invariant.there).0;
    }

pub returns : goal.returns
returns c = all_added c.args.passes.items c.loop-pass.passes.items c.args.all.now.items c.loop-pass.all.items (sym c.loop-pass.passes.ok.0 ∙ c.in_default.ensures.cases.0) c.loop-pass.invariant.added
