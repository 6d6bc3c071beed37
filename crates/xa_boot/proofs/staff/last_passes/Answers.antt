use Rattle.std.proofs.Common.{◌≡◌, ◌+◌, ◌<◌, List, length, refl, sym, ◌∙◌, ap, subst, arith}
use Rattle.std.specs.List.{All}
use Rattle.xa_boot.specs.Staffing.{AreTaken}
use Rattle.xa_boot.proofs.Taking.{Passes, none_taken, taken_more, written}
use Rattle.xa_boot.proofs.staff.last_passes.Goals as goal

pub last_of-requires : goal.last_of-requires
last_of-requires c =
    let Some : Passes → Type 0 = λ (passes : Passes). 0 < length passes.items in
    let old : List Passes = c.deref_mut-passes-items.result.now in
    let i = c.loop-passes.passes-index in
    let its : Passes = c.passes-item.result in
    let all : All Some old = subst (All Some) (sym c.deref_mut-passes-items.ensures.value) c.requires.some in
    subst Some (sym (c.loop-passes.invariant.taken.rest i its (omega arith))) (all i its c.loop-passes-test.true)

pub push_reserved-requires : goal.push_reserved-requires
push_reserved-requires c =
    let room = c.loop-passes.invariant.room in
    let count = c.loop-passes.invariant.taken.each_taken in
    let len = c.loop-passes.room.ok.0 in
    omega (arith, room, count, len)

pub loop-passes-init : goal.loop-passes-init
loop-passes-init c = record {
  taken = none_taken c.deref_mut-passes-items.result.now c.deref_mut-passes-items.result.now c.args.room.items refl c.requires.room.none;
  room = c.requires.room.capacity ∙ ap length (sym c.deref_mut-passes-items.ensures.value);
}

pub loop-passes-preserved : goal.loop-passes-preserved
loop-passes-preserved c = record {
  taken = subst (AreTaken (c.loop-passes.passes-index + 1) c.deref_mut-passes-items.result.now _) (sym c.push_reserved.ensures.items)
      (taken_more c.loop-passes.passes-index c.deref_mut-passes-items.result.now c.loop-passes.passes-items c.loop-passes.room.items c.passes-item.result c.last_of.new.items c.last_of.result c.loop-passes.invariant.taken c.loop-passes-test.true c.passes-item.is c.last_of.ensures);
  room = c.push_reserved.ensures.capacity ∙ c.loop-passes.invariant.room;
}

pub returns : goal.returns
returns c =
    let queues : List Passes = c.args.queues.now.items in
    let same = c.deref_mut-passes-items.ensures.value in
    let taken = c.loop-passes.invariant.taken in
    let count = taken.count in
    let all = ap length same in
    let len = c.args.queues.now.ok.0 in
    let at : c.loop-passes.passes-index ≡ length queues = omega (arith, all) in
    let whole = written c.args.queues.now.len c.loop-passes.passes-items queues len (omega (arith, count, all)) in
    subst (λ now. AreTaken (length queues) queues now c.loop-passes.room.items) (sym whole)
    (subst (λ n. AreTaken n queues c.loop-passes.passes-items c.loop-passes.room.items) at (subst (λ old. AreTaken c.loop-passes.passes-index old c.loop-passes.passes-items c.loop-passes.room.items) same taken))
