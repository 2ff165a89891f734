use Rattle.std.proofs.Common.{append_assoc}
use Rattle.trace_text.proofs.writing.push_channels.Goals as goal

pub returns-clause-text : goal.returns-clause-text
returns-clause-text c =
    rw (c.push_channel-5.ensures.text, c.push-4.ensures.text, c.push_channel-4.ensures.text, c.push-3.ensures.text, c.push_channel-3.ensures.text, c.push-2.ensures.text, c.push_channel-2.ensures.text, c.push.ensures.text, c.push_channel.ensures.text) (simp append_assoc)
