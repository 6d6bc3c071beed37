use Rattle.std.proofs.Common.{◌≡◌, ◌≤◌, ℕ, List, length, ap, subst, arith}
use Rattle.std.specs.Str.Lines.{lines}
use Rattle.xa_domain.specs.xa_script.Script.{IsScript}
use Rattle.xa_program.proofs.Built.{script_built, few_lines}
use Rattle.xa_program.proofs.script.read_script.Goals as goal

pub returns-in-Ok-read_upto-clause-built : goal.returns-in-Ok-read_upto-clause-built
returns-in-Ok-read_upto-clause-built g c =
    let octets = c.as_slice.result.now in
    let same : length octets ≡ length c.in-Ok.octets.items = ap length c.as_slice.ensures.value in
    let short : length c.in-Ok.octets.items ≤ 1048576 = c.in-Ok.ensures.short in
    let fewer = few_lines octets in
    script_built c.args.setup.now c.args.most (lines octets) c.in-Ok-read_upto.script.clients c.requires.most.1 (omega (arith, fewer, same, short)) c.in-Ok-read_upto.ensures.found

pub returns-in-Ok-read_upto-clause-script : goal.returns-in-Ok-read_upto-clause-script
returns-in-Ok-read_upto-clause-script g c = (
  c.in-Ok.octets.items,
  record { held = c.in-Ok.ensures.content; ended = c.in-Ok.ensures.ended; given = c.in-Ok.ensures.given },
  c.in-Ok.ensures.short,
  subst (λ (octets : List ℕ). IsScript c.args.setup.now c.args.most octets c.in-Ok-read_upto.script) c.as_slice.ensures.value c.in-Ok-read_upto.ensures.found,
)
