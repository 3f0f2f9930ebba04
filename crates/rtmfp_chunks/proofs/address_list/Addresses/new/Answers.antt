use Rattle.rtmfp_chunks.proofs.AddressLists.{addresses_in-whole}
use Rattle.rtmfp_chunks.proofs.address_list.Addresses.new.Goals as goal

pub returns-clause-whole : goal.returns-clause-whole
returns-clause-whole c addresses h = addresses_in-whole addresses c.args.list.now h
