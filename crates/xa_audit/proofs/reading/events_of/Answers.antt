use Rattle.std.proofs.Common.{◌≡◌, ◌++◌, ◌+◌, length, map, sym, ap, ◌∙◌, subst, arith, List, [], ◌∷◌, codes}
use Rattle.std.specs.List.{All, flat_map}
use Rattle.std.proofs.lemmas.List.{length_push, length-map}
use Rattle.std.proofs.lemmas.List.Elements.{All-append, All-from_recursion}
use Rattle.xa_events.specs.declared.event.Event.{Event}
use Rattle.xa_lines.specs.Line.{line_of, IsEvent}
use Rattle.xa_audit.specs.Record.{line, counted}
use Rattle.xa_audit.proofs.Lines.{events_more, no_rest}
use Rattle.xa_audit.proofs.Records.{no_event_read, no_end_read, no_line_left}
use Rattle.xa_audit.proofs.reading.events_of.Goals as goal

pub loop-i-preserved : goal.loop-i-preserved
loop-i-preserved c =
    let old = c.loop-i.history.items in
    subst (λ (es : List Event). (c.args.octets.now ≡ flat_map line (map line_of es) ++ c.in-Some.behind.now) × (length es ≡ c.loop-i.i + 1) × All IsEvent es) (sym c.in_ok-push-in-Ok.ensures.items) (
      events_more c.args.octets.now old c.in-Ok.event c.in-Some.text.now c.loop-i.rest.now c.in-Some.behind.now c.loop-i.invariant.0 c.in-Some.ensures.opens c.in-Ok.ensures.ok,
      (let many = c.loop-i.invariant.1 in let more = length_push old c.in-Ok.event in omega (arith, many, more)),
      All-append IsEvent old (c.in-Ok.event ∷ []) c.loop-i.invariant.2 (All-from_recursion IsEvent (c.in-Ok.event ∷ []) (c.in-Ok.ensures.fits, tt)),
    )

pub returns-in_default-clause-refused : goal.returns-in_default-clause-refused
returns-in_default-clause-refused c =
    let many = c.loop-i.invariant.1 in
    record {
      history = c.loop-i.history.items;
      rest = c.loop-i.rest.now;
      has = record { fits = c.loop-i.invariant.2; many = omega arith; opens = c.loop-i.invariant.0 };
      counted = omega (arith, many);
      none = λ event rest fits opens. c.in_default.ensures (line_of event) rest opens;
      no_end = λ rest opens. c.in_default.ensures (counted (codes "end") (length c.loop-i.history.items)) rest opens;
    }

pub returns-in-Err-NoEvent-clause-refused : goal.returns-in-Err-NoEvent-clause-refused
returns-in-Err-NoEvent-clause-refused c =
    let many = c.loop-i.invariant.1 in
    let len = c.len.ensures in
    let same : length c.loop-i.history.items ≡ c.len.result = omega arith in
    record {
      history = c.loop-i.history.items;
      rest = c.loop-i.rest.now;
      has = record { fits = c.loop-i.invariant.2; many = omega arith; opens = c.loop-i.invariant.0 };
      counted = omega (arith, many);
      none = no_event_read c.loop-i.rest.now c.in-Some.text.now c.in-Some.behind.now c.in-Some.ensures (c.in-Err-NoEvent.ensures.refused c.in-Err-NoEvent.field-0-is);
      no_end = no_end_read c.loop-i.rest.now c.in-Some.text.now c.in-Some.behind.now (length c.loop-i.history.items) c.in-Some.ensures (omega arith)
          (λ e. cc (c.if-is_end.ensures.1 (e ∙ ap (λ n. counted (codes "end") n) same)));
    }

pub returns-clause-refused : goal.returns-clause-refused
returns-clause-refused c =
    let many = c.loop-i.invariant.1 in
    let same = length-map c.loop-i.history.items line_of in
    let none = no_rest c.args.octets.now (map line_of c.loop-i.history.items) c.loop-i.rest.now c.loop-i.invariant.0 (omega (arith, many, same)) in
    record {
      history = c.loop-i.history.items;
      rest = c.loop-i.rest.now;
      has = record { fits = c.loop-i.invariant.2; many = omega arith; opens = c.loop-i.invariant.0 };
      counted = omega (arith, many);
      none = λ event rest fits opens. no_line_left (line_of event) rest (sym none ∙ opens);
      no_end = λ rest opens. no_line_left (counted (codes "end") (length c.loop-i.history.items)) rest (sym none ∙ opens);
    }
