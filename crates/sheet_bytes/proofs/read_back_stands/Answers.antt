use Rattle.sheet.specs.Contents.{content_of}
use Rattle.sheet_bytes.proofs.Goods.{sheet_good}
use Rattle.sheet_bytes.proofs.Trips.{round_trip}
use Rattle.sheet_bytes.proofs.read_back_stands.Goals as goal

pub returns : goal.returns
returns c =
    let good = sheet_good c.args.sheet _ c.well_formed.0 in
    record { good = good; back = round_trip (content_of c.args.sheet) good }
