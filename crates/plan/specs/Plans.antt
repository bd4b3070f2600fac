-- What a planned act means. Assumes nothing.
use Rattle.std.specs.Prelude.{List, map, vec_items}
use Rattle.sheet.specs.Contents.{content_of}
use Rattle.outcome.specs.Acts as done
use Rattle.outcome.specs.Acts.{signed_in, both_in, passed_on, key_is, recorded, synced, sent_sheet, sent_signature, shown_sheet, shown_key}
use Rattle.plan.specs.declared.types.Act.{Act}
use Rattle.plan.specs.declared.types.Act.TheVariants.{RecordSigned, RecordBoth, RecordPassed, RecordKey, Sync, SendSheet, SendSignature, ShowSheet, ShowKey}
use Rattle.plan.specs.declared.types.Plan.{Plan}

abbrev pub act_of : Act → done.Act
act_of (RecordSigned i s) = recorded (signed_in i (content_of s))
act_of (RecordBoth i s) = recorded (both_in i (content_of s))
act_of (RecordPassed lock route) = recorded (passed_on lock route.from route.to)
act_of (RecordKey key) = recorded (key_is key)
act_of Sync = synced
act_of (SendSheet i s) = sent_sheet i (content_of s)
act_of (SendSignature i k) = sent_signature i k
act_of (ShowSheet i s) = shown_sheet i (content_of s)
act_of (ShowKey i k) = shown_key i k

-- The acts of a plan, in their order.
abbrev pub plan_of : Plan → List done.Act
plan_of p = map act_of (vec_items p.acts)
