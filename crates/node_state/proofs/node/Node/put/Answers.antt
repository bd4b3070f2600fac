use Rattle.std.proofs.Common.{rules, ◌≡◌, ap}
use lib.Seq.{map-set}
use Rattle.account.specs.Accounts.{standing_of}
use Rattle.node_state.specs.Nodes.{state_of, with_accounts}
use Rattle.node_state.proofs.node.Node.put.Goals as goal

pub returns-in-Some : goal.returns-in-Some
returns-in-Some c = ap (with_accounts (state_of c.args.self.now)) (map-set standing_of c.args.self.now.accounts.items c.args.i c.args.account)
