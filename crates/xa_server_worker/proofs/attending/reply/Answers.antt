use Rattle.xa_desk.specs.xa_types.declared.reply.Reply.{Reply as ReplyOf}
use Rattle.xa_desk.specs.xa_pipe.Frames.{reply_frame}
use Rattle.xa_desk.specs.xa_pipe.Standing.{tag_of}
use Rattle.xa_desk.specs.xa_pipe.Changes.{Invoked, Unsent}
use Rattle.xa_server_worker.specs.Attending.{IsReplyTo}
use Rattle.xa_server_worker.proofs.Calling.{ok_weaker, err_weaker, reply_done, reply_fault, reply_answered}
use Rattle.xa_server_worker.proofs.attending.reply.Goals as goal

pub returns-in-Done-clause-sent : goal.returns-in-Done-clause-sent
returns-in-Done-clause-sent g c =
    ok_weaker _ (λ new. (reply : ReplyOf) → IsReplyTo c.args.told reply c.args.desk.now → Invoked (reply_frame (tag_of c.args.life) reply) new c.args.life)
    (λ new sent reply by. reply_done (λ (r : ReplyOf). Invoked (reply_frame (tag_of c.args.life) r) new c.args.life) c.args.told reply c.args.desk.now c.in-Done.is by sent) c.reply.result c.reply.ensures.sent

pub returns-in-Done-clause-over : goal.returns-in-Done-clause-over
returns-in-Done-clause-over g c =
    err_weaker _ (λ over. (reply : ReplyOf) → IsReplyTo c.args.told reply c.args.desk.now → Unsent (reply_frame (tag_of c.args.life) reply) over c.args.life)
    (λ over unsent reply by. reply_done (λ (r : ReplyOf). Unsent (reply_frame (tag_of c.args.life) r) over c.args.life) c.args.told reply c.args.desk.now c.in-Done.is by unsent) c.reply.result c.reply.ensures.over

pub returns-in-Fault-clause-sent : goal.returns-in-Fault-clause-sent
returns-in-Fault-clause-sent g c =
    ok_weaker _ (λ new. (reply : ReplyOf) → IsReplyTo c.args.told reply c.args.desk.now → Invoked (reply_frame (tag_of c.args.life) reply) new c.args.life)
    (λ new sent reply by. reply_fault (λ (r : ReplyOf). Invoked (reply_frame (tag_of c.args.life) r) new c.args.life) c.args.told c.in-Fault.fault reply c.args.desk.now c.in-Fault.is by sent) c.reply-in-Fault.result c.reply-in-Fault.ensures.sent

pub returns-in-Answer-clause-sent : goal.returns-in-Answer-clause-sent
returns-in-Answer-clause-sent g c =
    ok_weaker _ (λ new. (reply : ReplyOf) → IsReplyTo c.args.told reply c.args.desk.now → Invoked (reply_frame (tag_of c.args.life) reply) new c.args.life)
    (λ new sent reply by. reply_answered (λ (r : ReplyOf). Invoked (reply_frame (tag_of c.args.life) r) new c.args.life) c.args.told c.in-Answered.descriptor c.in-Answer.replied reply c.args.desk.now c.entries.result.now c.newest-item.result c.in-Answered.is c.entries.ensures c.newest-item.is c.in-Answer.is by sent) c.reply_answer.result c.reply_answer.ensures.sent

pub returns-in-Answer-clause-over : goal.returns-in-Answer-clause-over
returns-in-Answer-clause-over g c =
    err_weaker _ (λ over. (reply : ReplyOf) → IsReplyTo c.args.told reply c.args.desk.now → Unsent (reply_frame (tag_of c.args.life) reply) over c.args.life)
    (λ over unsent reply by. reply_answered (λ (r : ReplyOf). Unsent (reply_frame (tag_of c.args.life) r) over c.args.life) c.args.told c.in-Answered.descriptor c.in-Answer.replied reply c.args.desk.now c.entries.result.now c.newest-item.result c.in-Answered.is c.entries.ensures c.newest-item.is c.in-Answer.is by unsent) c.reply_answer.result c.reply_answer.ensures.over
