-- What a reader that gives a frame comes to, and one that gives none.
use Rattle.std.proofs.Common.{◌≡◌, ℕ, ◌+◌, ◌-◌, ◌^◌, ◌<◌, ◌≤◌, true, List, [], ◌∷◌, ◌++◌, length, refl, ap, subst, ◌∙◌, inl, inr, arith}
use Rattle.std.specs.Prelude.{min}
use Rattle.std.proofs.Transfers.{starts_with_of_append}
use Rattle.std.proofs.lemmas.Grind.{common_steps}
use Rattle.std.proofs.lemmas.List.{length-append}
use Rattle.xa_link.specs.Links.{LinkShows}
use Rattle.xa_frame.specs.declared.frame.Frame.{Frame}
use Rattle.xa_frame.specs.declared.reader.NextRefused.{NextRefused}
use Rattle.xa_frame.specs.declared.reader.NextRefused.TheVariants.{BadFrame, NoMemory}
use Rattle.xa_frame.specs.Reader.{Incoming, Refused}
use Rattle.xa_frame.specs.Spelling.{header, spelled, all_spelled}
use Rattle.xa_frame.specs.Stream.{allows, IsPartial}
use Rattle.xa_pipe.specs.Pipe.{piped, HasRead, Keeps, ReadsNone, ended_by}
use Rattle.xa_pipe.proofs.Ceasing.{stands_more}
use Rattle.xa_pipe.proofs.Frames.{told_more, read_more}

few_octets : (kind size : ℕ) → allows kind size ≡ true → size ≤ 66_000
few_octets kind size allowed = grind (arith, common_steps)

-- less than a frame is shorter than the longest frame
pub partial_few : (octets : List ℕ) → IsPartial octets → length octets < 66_012
partial_few octets (inl short) = omega (arith, short)
partial_few octets (inr (kind, size, tag, body, lacks)) =
    let text : length octets ≡ 12 + length body = ap length lacks.whole ∙ length-append (header kind size tag) body in
    let most = few_octets kind size lacks.allowed in
    omega (arith, text, most, lacks.short)

-- where it gives a frame, that was read behind the others
pub reads_next : (link : LinkShows) (old new : Incoming) (frames : List Frame) (f : Frame) → old.rest ≡ spelled f ++ new.rest → new.place ≡ min (old.place + length (spelled f)) (2 ^ 64 - 1)
    → HasRead (piped link old) frames → HasRead (piped link new) (frames ++ f ∷ [])
reads_next link old new frames f stood moved read = read_more (piped link old) (piped link new) frames f refl stood moved read

refused_same : (link : LinkShows) (reader : Incoming) (frames : List Frame) (why : NextRefused) → Refused reader reader why → HasRead (piped link reader) frames
    → Keeps (piped link reader) frames (ended_by why) × ReadsNone (piped link reader) frames (ended_by why)
refused_same link reader frames (BadFrame place) refused read = (read, (refused.1 ∙ read.place, refused.2))
refused_same link reader frames NoMemory refused read = (
  told_more link.gave _ _ (λ octets e. starts_with_of_append octets (all_spelled frames) reader.rest e) read.told,
  stands_more (piped link reader) frames refused.1.0 refused.1.1 read refused.1.2,
)

unchanged : (old new : Incoming) (why : NextRefused) → Refused old new why → new ≡ old
unchanged old new (BadFrame place) refused = refused.0
unchanged old new NoMemory refused = refused.0

-- where it refuses, the frames that were read stay, and it shows why there is no other
pub refused_reads : (link : LinkShows) (old new : Incoming) (frames : List Frame) (why : NextRefused) → Refused old new why → HasRead (piped link old) frames
    → Keeps (piped link new) frames (ended_by why) × ReadsNone (piped link new) frames (ended_by why)
refused_reads link old new frames why refused read =
    let same = unchanged old new why refused in
    rw same (refused_same link old frames why (subst (λ r. Refused old r why) same refused) read)
