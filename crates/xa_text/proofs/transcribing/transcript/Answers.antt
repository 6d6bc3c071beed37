use Rattle.std.proofs.Common.{◌≡◌, ◌+◌, ◌∷◌, ◌++◌, [], List, ℕ, length, reverse, sym, ap, ◌∙◌, append-nil, append_assoc, length-append, arith}
use Rattle.std.specs.List.{flat_map}
use Rattle.std.proofs.lemmas.Grind.{flat_map-append}
use Rattle.xa_text.specs.Transcript.{transcript}
use Rattle.xa_text.proofs.Telling.{one_joined}
use Rattle.xa_text.proofs.transcribing.transcript.Goals as goal

pub loop-text-preserved : goal.loop-text-preserved
loop-text-preserved c =
    let begun : c.into_iter-text-iterator.result.rest.items ≡ c.in_ok-told.told.items = c.into_iter-text-iterator.ensures.into_iter_gives.0 in
    let done = c.loop-text.yielded in
    let own = c.in-Some.field-0 in
    let rest = c.next.new.self.rest.items in
    let step : done ++ own ∷ rest ≡ c.into_iter-text-iterator.result.rest.items = ap (λ l. done ++ l) (sym c.in-Some.ensures.steps.0) ∙ c.loop-text.invariant.left in
    let past = reverse c.args.history.now in
    let whole : List (List ℕ) → List ℕ = λ pieces. flat_map (λ piece. piece) pieces in
    let front = c.loop-text.pieces.items in
    let text = c.from_vec.result in
    let pushed : whole c.push_reserved.new.self.items ≡ whole front ++ own.text.items =
    ap whole c.push_reserved.ensures.items ∙ (flat_map-append (λ (piece : List ℕ). piece) front (text ∷ []) ∙ ap (λ l. whole front ++ l) (append-nil text ∙ c.from_vec.ensures)) in
    let more : length c.push_reserved.new.self.items ≡ length front + 1 = ap length c.push_reserved.ensures.items ∙ length-append front (text ∷ []) in
    record {
      lines = one_joined c.args.names.now past c.in_ok-told.told.items done rest own (whole front) (whole c.push_reserved.new.self.items) (transcript c.args.names.now past) c.in_ok-told.ensures (step ∙ begun) pushed c.loop-text.invariant.lines;
      left = append_assoc done (own ∷ []) rest ∙ step;
      count = omega (arith, more, c.loop-text.invariant.count, length-append done (own ∷ []));
      room = omega (arith, c.push_reserved.ensures.capacity, c.loop-text.invariant.room);
    }
