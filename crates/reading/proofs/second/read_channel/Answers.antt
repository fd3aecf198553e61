use Rattle.reading.proofs.Sayings.{says_channel, channel_read}
use Rattle.reading.proofs.second.read_channel.Goals as goal

pub returns-in_default : goal.returns-in_default
returns-in_default g c =
    let i = c.in_ok-line.ensures in
    channel_read g.C.Spelled.rule g.C.Spelled.form _ _ i c.from_line.result (says_channel _ _ i c.in_default.not-Depth c.in_default.not-Place) (c.from_line.ensures i.form i.lawful i.says)
